-- PBKDF1 (RFC 8018, section 5.1).
use Rattle.std.specs.Prelude.{ℕ, List, ◌++◌, take}
use Rattle.des_passwords.specs.BytesToKey.{repeated}

-- the first bytes of T c, where T 1 = Hash (P || S) and T (i + 1) = Hash (T i)
abbrev pub pbkdf1 : (List ℕ → List ℕ) → List ℕ → List ℕ → ℕ → ℕ → List ℕ
pbkdf1 hash password salt count length = take length (repeated hash count (password ++ salt))
