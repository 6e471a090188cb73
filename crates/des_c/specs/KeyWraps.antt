-- Key wraps of bytes: which lengths there are, and semiblocks of bytes.
use Rattle.std.specs.Prelude.{◌≡◌, ◌⊎◌, ℕ, ◌<◌, ◌≤◌, ◌/◌, ◌%◌, ◌^◌, List, length}
use Rattle.std.specs.Simd.{first_chunks}

-- a key that protects is one of triple DES
abbrev pub IsProtectionLength : ℕ → Type 0
IsProtectionLength bytes = (bytes ≡ 16) ⊎ (bytes ≡ 24)

-- the key wrap of CMS takes whole blocks, and makes two more
abbrev pub IsCmsKeyLength : ℕ → Type 0
IsCmsKeyLength bytes = (1 ≤ bytes) × (bytes % 8 ≡ 0)

-- TKW takes 2 to 2^28 - 1 semiblocks of four bytes, and makes one more
abbrev pub IsTkwKeyLength : ℕ → Type 0
IsTkwKeyLength bytes = (8 ≤ bytes) × (bytes % 4 ≡ 0) × (bytes < 2 ^ 30)

-- the semiblocks of bytes, in their order; what comes after the last whole one is in none
abbrev pub semiblocks_of : List ℕ → List (List ℕ)
semiblocks_of bytes = first_chunks 4 (length bytes / 4) bytes
