-- `PBEWithMD5AndTripleDES`, as Java's provider SunJCE derives key and vector (com.sun.crypto.provider.PBES1Core).
use Rattle.std.specs.Prelude.{ℕ, zero, suc, List, ◌++◌, if◌then◌else◌, take, drop, reverse}
use Rattle.std.specs.Str.{bytes_eq}
use Rattle.md5.specs.Md5.{md5}

-- D n, where D 0 is a half of the salt and D (n + 1) = MD5 (D n || password)
unfoldable pub digested : ℕ → List ℕ → List ℕ → List ℕ
digested zero password half = half
digested (suc n) password half = md5 (digested n password half ++ password)

-- the halves of a salt of eight bytes: the first is reversed, if it is the second too
abbrev pub second_half : List ℕ → List ℕ
second_half salt = drop 4 salt

abbrev pub first_half : List ℕ → List ℕ
first_half salt = if bytes_eq (take 4 salt) (second_half salt) then reverse (take 4 salt) else take 4 salt

-- 24 bytes of key and 8 of the vector: each half by itself
abbrev pub derived : List ℕ → List ℕ → ℕ → List ℕ
derived password salt count = digested count password (first_half salt) ++ digested count password (second_half salt)
