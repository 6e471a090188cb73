-- Selections from the bits of a word as terms of masks, shifts and products, joined by or.
use Rattle.std.specs.Prelude.{ℕ, ◌*◌, ◌/◌, ◌%◌, ◌^◌, [], ◌∷◌, bit_and, bit_or}
use Rattle.std.specs.Int.{w64, rotate_left}
use Rattle.std.specs.List.{fold}

-- the bits of a word under a mask, shifted to the left
abbrev pub shifted_left : ℕ → ℕ → ℕ → ℕ
shifted_left word mask places = bit_and word mask * 2 ^ places % 2 ^ 64

-- the bits of a word under a mask, shifted to the right
abbrev pub shifted_right : ℕ → ℕ → ℕ → ℕ
shifted_right word mask places = bit_and word mask / 2 ^ places

-- the product of the bits of a word under a mask with a factor, and of it the bits under `kept`
abbrev pub gathered : ℕ → ℕ → ℕ → ℕ → ℕ
gathered word mask factor kept = bit_and (bit_and word mask * factor % 2 ^ 64) kept

-- E of the first 32 bits of a word whose last 32 bits are zero, in its first 48 bits: a term for
-- the bit that comes round to the front, one for each group of six bits or what of it lies in the
-- word, and one for the bit that comes round to the end
unfoldable pub term_form_of_e : ℕ → ℕ
term_form_of_e word =
    fold bit_or
    (bit_and (word * 2 ^ 31 % 2 ^ 64) 0x8000000000000000) (
    bit_and (word / 2 ^ 1) 0x7c00000000000000 ∷
    bit_and (word / 2 ^ 3) 0x03f0000000000000 ∷
    bit_and (word / 2 ^ 5) 0x000fc00000000000 ∷
    bit_and (word / 2 ^ 7) 0x00003f0000000000 ∷
    bit_and (word / 2 ^ 9) 0x000000fc00000000 ∷
    bit_and (word / 2 ^ 11) 0x00000003f0000000 ∷
    bit_and (word / 2 ^ 13) 0x000000000fc00000 ∷
    bit_and (word / 2 ^ 15) 0x00000000003e0000 ∷
    bit_and (word / 2 ^ 47) 0x0000000000010000 ∷ [])

-- permuted choice 2 of the halves in the first 56 bits of a word whose last 8 bits are zero
unfoldable pub term_form_of_pc2 : ℕ → ℕ
term_form_of_pc2 halves =
    let word : ℕ = rotate_left w64 halves 61 in
    fold bit_or
    (shifted_right word 0x0021000002000000 7) (
    shifted_left word 0x0008020010080000 1 ∷
    bit_and word 0x0002200000000000 ∷
    shifted_left word 0x0000000000100020 19 ∷
    gathered (rotate_left w64 word 54) 0x0005312400000011 0x0000000094200201 0xea40100880000000 ∷
    gathered (rotate_left w64 word 7) 0x0022110000012001 0x0001000000610006 0x1185004400000000 ∷
    gathered (rotate_left w64 word 6) 0x0000520040200002 0x00000080000000c1 0x0028811000200000 ∷
    gathered word 0x01000004c0011100 0x0000000000004284 0x0400082244400000 ∷
    gathered (rotate_left w64 word 60) 0x0000000000820280 0x0000000000089001 0x0000000110880000 ∷
    gathered (rotate_left w64 word 49) 0x0000000000024084 0x0000000002040005 0x000000000a030000 ∷ [])

-- the permutation P of the first 32 bits of a word whose last 32 bits are zero
unfoldable pub term_form_of_p : ℕ → ℕ
term_form_of_p input =
    let word : ℕ = rotate_left w64 input 44 in
    fold bit_or
    (shifted_left word 0x0000000000200000 32) (
    shifted_left word 0x0000000000480000 13 ∷
    shifted_left word 0x0000088000000000 12 ∷
    shifted_left word 0x0000002020120000 25 ∷
    shifted_left word 0x0000000442000000 14 ∷
    shifted_left word 0x0000000001800000 37 ∷
    shifted_left word 0x0000000004000000 24 ∷
    gathered word 0x0000020280015000 0x0000020080800083 0x02000a6400000000 ∷
    gathered (rotate_left w64 word 29) 0x01001400000000aa 0x0000210210008081 0x0902c01200000000 ∷
    gathered word 0x0000000910040000 0x0000000c04000020 0x8410010000000000 ∷ [])
