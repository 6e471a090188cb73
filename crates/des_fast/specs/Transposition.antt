-- The transposition of 64 rows of bits in each word of slices. `bit b slice` is the bit at place b of a
-- slice, from 0: place b % 64 of its word b / 64.
use Rattle.std.specs.Prelude.{◌≡◌, ℕ, ◌+◌, ◌-◌, ◌*◌, ◌/◌, ◌%◌, ◌<◌, ◌==◌, ◌&&◌, if◌then◌else◌, not, Bool, false, List, [], ◌∷◌, ◌++◌, map, nat_lt, slice_index_or}
use Rattle.std.specs.List.{range_with_len, list_all}
use Rattle.des.specs.Bits.{bits_of_word, bits_of_bytes, select}
use Rattle.des.specs.Tables.{final_permutation}
use Rattle.des.specs.Blocks.{block_of_bits}
use Rattle.des_fast.specs.Slices.{InEachBlock, number_in_word}

-- 1 if bit b is the second of its pair in its word and 0 if it is the first, with the bits
-- taken in pairs at a distance
abbrev pub second : ℕ → ℕ → ℕ
second distance b = b % 64 / distance % 2

-- the mask has the bit of a word at a place that is second in its pair, and not the one at its
-- partner's; the two bits have the distance of the places
abbrev pub pairs_place : ℕ → ℕ → ℕ → Bool
pairs_place distance mask place =
    let masked = λ (p : ℕ). slice_index_or (bits_of_word mask) p false in
    let number = number_in_word place in
    if place / distance % 2 == 1
    then ((masked number && not (masked (number + distance)))
    && (not (nat_lt place distance) && (number_in_word (place - distance) + distance == number)))
    else ((not (masked number) && masked (number + distance))
    && (nat_lt (place + distance) 64 && (number_in_word (place + distance) == number + distance)))

-- the same for all places of a word
abbrev pub pairs_places : ℕ → ℕ → Bool
pairs_places distance mask = list_all (pairs_place distance mask) (range_with_len 0 64)

-- bit b of row m of the answer is the bit at a place of the rows: a row, and a bit of it
abbrev pub IsFrom : {A : Type 0} → (ℕ → A → Bool) → List A → List A → ℕ → ℕ → ℕ × ℕ → Type 0
IsFrom bit rows answer m b from =
    slice_index_or (map (bit b) answer) m false
    ≡ slice_index_or (map (bit from.1) rows) from.0 false

-- ---- steps that make a pair of rows of a pair: where bit b of row t of the answer comes from

-- an exchange of bits at a distance: from the second row if bit b is second, and there from the bit
-- that is second if t is 1
abbrev pub exchanged : ℕ → ℕ → ℕ → ℕ × ℕ
exchanged distance t b = (second distance b, b - distance * second distance b + distance * t)

-- the bytes of the two by turns, in each 16 bytes: of the first halves, and of the second ones
abbrev pub interleaved : ℕ → ℕ → ℕ × ℕ
interleaved t b = (b / 8 % 2, 128 * (b / 128) + 64 * t + 8 * (b % 128 / 16) + b % 8)

-- the words of the two by turns, in each 16 bytes: the first ones, and the second ones
abbrev pub joined : ℕ → ℕ → ℕ × ℕ
joined t b = (b / 64 % 2, 128 * (b / 128) + 64 * t + b % 64)

-- where bit b of row m comes from, if each row of the first half makes such a pair with the row at its
-- place in the second half, and the two come out side by side
abbrev pub pairwise : ℕ → (ℕ → ℕ → ℕ × ℕ) → ℕ → ℕ → ℕ × ℕ
pairwise half step m b = (half * (step (m % 2) b).0 + m / 2, (step (m % 2) b).1)

-- the rows after such a step, in pairs
abbrev pub ArePairwise : {A : Type 0} → ℕ → (ℕ → A → Bool) → ℕ → (ℕ → ℕ → ℕ × ℕ) → List A → List A
    → Type 0
ArePairwise batch bit half step rows answer =
    (m : ℕ) → m < 2 * half → InEachBlock batch (λ b. IsFrom bit rows answer m b (pairwise half step m b))

-- byte i of row m comes from byte m of row i
abbrev pub bytes_from : ℕ → ℕ → ℕ × ℕ
bytes_from m b = (b / 8 % 8, 64 * (b / 64) + 8 * m + b % 8)

-- bit i of each byte of row m comes from bit m of that byte of row i
abbrev pub bits_from : ℕ → ℕ → ℕ × ℕ
bits_from m b = (b % 8, 8 * (b / 8) + m)

-- eight rows with their bytes transposed
abbrev pub AreBytesExchanged : {A : Type 0} → ℕ → (ℕ → A → Bool) → List A → List A → Type 0
AreBytesExchanged batch bit rows answer =
    (m : ℕ) → m < 8 → InEachBlock batch (λ b. IsFrom bit rows answer m b (bytes_from m b))

-- eight rows with the bits of their bytes transposed
abbrev pub AreBitsExchanged : {A : Type 0} → ℕ → (ℕ → A → Bool) → List A → List A → Type 0
AreBitsExchanged batch bit rows answer =
    (m : ℕ) → m < 8 → InEachBlock batch (λ b. IsFrom bit rows answer m b (bits_from m b))

-- the bits of each byte transposed across the eight rows of its number, of bits that are known by their
-- place: bit t of row m comes from bit m of row t
abbrev pub AreBitsTransposed : ℕ → (ℕ → List Bool) → (ℕ → List Bool) → Type 0
AreBitsTransposed batch rows answer =
    (m : ℕ) → m < 64
    → InEachBlock batch (λ b. slice_index_or (answer b) m false
    ≡ slice_index_or (rows (8 * (b / 8) + m % 8)) (8 * (m / 8) + b % 8) false)

-- ---- steps of eight rows, computed

-- the steps that transpose the bytes, the last one first
abbrev pub byte_steps : List (ℕ → ℕ → ℕ × ℕ)
byte_steps = joined ∷ interleaved ∷ interleaved ∷ interleaved ∷ []

-- those that transpose the bits of bytes
abbrev pub bit_steps : List (ℕ → ℕ → ℕ × ℕ)
bit_steps = exchanged 1 ∷ exchanged 2 ∷ exchanged 4 ∷ []

-- whether bit b of row m comes from a place
abbrev pub comes_from : ℕ → List (ℕ → ℕ → ℕ × ℕ) → ℕ × ℕ → ℕ → ℕ → Bool
comes_from batch [] from m b = (m == from.0) && (b == from.1)
comes_from batch (step ∷ steps) from m b =
    let before = pairwise 4 step m b in
    (nat_lt before.0 8 && nat_lt before.1 batch) && comes_from batch steps from before.0 before.1

-- the same for all bits of the rows
abbrev pub all_come_from : ℕ → List (ℕ → ℕ → ℕ × ℕ) → (ℕ → ℕ → ℕ × ℕ) → Bool
all_come_from batch steps from =
    list_all (λ m. list_all (λ b. comes_from batch steps (from m b) m b) (range_with_len 0 batch))
    (range_with_len 0 8)

-- ---- blocks as rows

-- block k of a list
abbrev pub block_at : List (List ℕ) → ℕ → List ℕ
block_at blocks k = slice_index_or blocks k []

-- the bits of a word of a slice
abbrev pub bits_of_lane : {A : Type 0} → (ℕ → A → Bool) → A → ℕ → List Bool
bits_of_lane bit slice lane = map (λ p. bit (64 * lane + p) slice) (range_with_len 0 64)

-- the bits of a word of row m
abbrev pub bits_of_row : {A : Type 0} → (ℕ → A → Bool) → List A → ℕ → ℕ → List Bool
bits_of_row bit rows m lane =
    map (λ p. slice_index_or (map (bit (64 * lane + p)) rows) m false) (range_with_len 0 64)

-- ---- blocks as halves

-- the bits that two halves make under the final permutation: those of a block whose halves, after the
-- initial permutation, are these
abbrev pub bits_of_halves : {A : Type 0} → (A → Bool) → List A → List A → List Bool
bits_of_halves read left right = select final_permutation (map read left ++ map read right)

-- the slices of the halves have the bits of the blocks
abbrev pub AreSlicesOf : {A : Type 0} → ℕ → (ℕ → A → Bool) → List (List ℕ) → List A → List A → Type 0
AreSlicesOf batch bit blocks left right =
    InEachBlock batch (λ k. bits_of_halves (bit k) left right ≡ bits_of_bytes (block_at blocks k))

-- the blocks are those of the bits of the halves
abbrev pub AreBlocksOf : {A : Type 0} → ℕ → (ℕ → A → Bool) → List A → List A → List (List ℕ) → Type 0
AreBlocksOf batch bit left right blocks =
    InEachBlock batch (λ k. block_at blocks k ≡ block_of_bits (bits_of_halves (bit k) left right))
