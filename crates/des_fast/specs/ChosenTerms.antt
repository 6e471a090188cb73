-- The entries of the boxes as the code makes them, in the bytes of four words, the last byte of a word first: sums
-- modulo 2 of terms, those that the bits of a group choose.
use Rattle.std.specs.Prelude.{◌≡◌, ℕ, zero, suc, ◌+◌, ◌-◌, ◌/◌, ◌%◌, ◌^◌, ◌<◌, ◌==◌, cond, List, length, bit_and, bit_xor, slice_index_or}
use Rattle.std.specs.Int.{w64, to_be_bytes}

-- all ones if the byte has this bit, else 0
abbrev pub mask : ℕ → ℕ → ℕ
mask byte bit = cond (bit_and byte bit == bit) 255 0

-- the sum of 2 ^ n terms from one on, those that the last n bits of a byte choose
abbrev pub sum : ℕ → (ℕ → ℕ) → ℕ → ℕ → ℕ
sum zero term from byte = term from
sum (suc n) term from byte =
    bit_xor (sum n term from byte) (bit_and (mask byte (2 ^ n)) (sum n term (from + 2 ^ n) byte))

-- the sum of 32 terms, and the first half of its byte in place of the second if the first bit of six is set
abbrev pub choice : (ℕ → ℕ) → ℕ → ℕ
choice term byte = bit_xor (sum 5 term 0 byte) (bit_and (mask byte 32) (sum 5 term 0 byte / 2 ^ 4))

-- what a table of words holds in byte i of term k
abbrev pub term : List ℕ → ℕ → ℕ → ℕ
term table i k = slice_index_or (to_be_bytes w64 (slice_index_or table k 0)) i 0

-- each of 32 bytes is this of the byte at its index
pub record IsOfEachByte (f : ℕ → ℕ → ℕ) (bytes made : List ℕ) : Type 0 where
  pub count : length made ≡ 32
  pub each : (j : ℕ) → j < 32 → slice_index_or made j 0 ≡ f j (slice_index_or bytes j 0)

-- the masks of one bit of each byte
abbrev pub AreMasks : ℕ → List ℕ → List ℕ → Type 0
AreMasks bit bytes masks = IsOfEachByte (λ j byte. mask byte bit) bytes masks

-- the sums of 2 ^ n terms from one on
abbrev pub AreSums : ℕ → List ℕ → ℕ → List ℕ → List ℕ → Type 0
AreSums n table from bytes sums = IsOfEachByte (λ j byte. sum n (term table (7 - j % 8)) from byte) bytes sums

-- and what the groups make of all 32
abbrev pub AreChoices : List ℕ → List ℕ → List ℕ → Type 0
AreChoices table bytes choices = IsOfEachByte (λ j byte. choice (term table (7 - j % 8)) byte) bytes choices
