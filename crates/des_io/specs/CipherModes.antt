-- The modes of operation that lists of blocks are enciphered in: each block by itself (ECB), or
-- chained (CBC), both FIPS 81.
use Rattle.std.specs.Prelude.{◌≡◌, ℕ, List, map}
use Rattle.des.specs.Cbc.{Cbc, CbcDecrypts, next_vector}
use Rattle.des_io.specs.declared.mode.BlockMode.{BlockMode}
use Rattle.des_io.specs.declared.mode.BlockMode.TheVariants.{Ecb, Cbc as CbcMode}

-- q is p enciphered
abbrev pub Enciphered : (List ℕ → List ℕ) → BlockMode → List (List ℕ) → List (List ℕ) → Type 0
Enciphered encryption Ecb p q = q ≡ map encryption p
Enciphered encryption (CbcMode iv) p q = Cbc encryption iv p q

-- p is q deciphered
abbrev pub Deciphered : (List ℕ → List ℕ) → BlockMode → List (List ℕ) → List (List ℕ) → Type 0
Deciphered decryption Ecb q p = p ≡ map decryption q
Deciphered decryption (CbcMode iv) q p = CbcDecrypts decryption iv q p

-- how blocks go on after ciphertext blocks q
abbrev pub mode_after : BlockMode → List (List ℕ) → BlockMode
mode_after Ecb q = Ecb
mode_after (CbcMode iv) q = CbcMode (next_vector iv q)
