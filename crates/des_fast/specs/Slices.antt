-- Bit slices of a batch of blocks. A slice has one bit of each block of the batch; `bit b slice` is
-- that of block b, from 0.
use Rattle.std.specs.Prelude.{◌≡◌, ℕ, ◌+◌, ◌-◌, ◌*◌, ◌/◌, ◌%◌, ◌<◌, Bool, false, List, [], ◌∷◌, map, slice_index_or, slice_set}
use Rattle.std.specs.List.{flat_map}
use Rattle.des.specs.Bits.{bit, bits_of, bits_of_word, xor}
use Rattle.des.specs.Tables.{Box}
use Rattle.des.specs.CipherFunction.{box_entry}

-- what holds of each block of a batch
abbrev pub InEachBlock : ℕ → (ℕ → Type 0) → Type 0
InEachBlock batch P = (b : ℕ) → b < batch → P b

-- in each block, the group of six bits is replaced by the four bits of the box's entry for it (FIPS
-- 46-3, S-boxes)
abbrev pub ReplacesGroups : {A : Type 0} → ℕ → (ℕ → A → Bool) → Box → List A → List A → Type 0
ReplacesGroups batch bit box groups entries =
    InEachBlock batch (λ b. map (bit b) entries ≡ bits_of 4 (box_entry box (map (bit b) groups)))

-- bits with others xored into those at some indexes, from 0
abbrev pub xor_at : List Bool → List ℕ → List Bool → List Bool
xor_at bits [] changes = bits
xor_at bits (index ∷ indexes) [] = bits
xor_at bits (index ∷ indexes) (change ∷ changes) =
    xor_at (slice_set bits index (xor (slice_index_or bits index false) change)) indexes changes

-- ---- vectors of words

-- the bits of words, word after word
abbrev pub bits_of_slice : List ℕ → List Bool
bits_of_slice words = flat_map bits_of_word words

-- which bit of its word stands at a place of a vector, from 0, the most significant first: at places
-- side by side stand the bits of bytes, and of a word the least significant byte is the first, as in
-- memory
abbrev pub number_in_word : ℕ → ℕ
number_in_word place = 56 - 8 * (place / 8 % 8) + place % 8

-- the bit at a place of a vector, from 0
abbrev pub bit_at_place : ℕ → List ℕ → Bool
bit_at_place place words =
    slice_index_or (bits_of_word (slice_index_or words (place / 64) 0)) (number_in_word place) false

-- the place of block b in slices of n words: blocks side by side stand in one row, each in a word of
-- its own
abbrev pub place_of_block : ℕ → ℕ → ℕ
place_of_block n b = 64 * (b % n) + b / n

-- the bit of block b in a vector of n words
abbrev pub bit_of_block : ℕ → ℕ → List ℕ → Bool
bit_of_block n b words = bit_at_place (place_of_block n b) words
