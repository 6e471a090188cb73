-- Words and their halves: what shifts, masks, `|` and `^` make of them.
use Rattle.std.proofs.Common.{◌≡◌, ℕ, ◌*◌, ◌/◌, ◌%◌, ◌^◌, ◌<◌, ◌++◌, take, drop, bit_and, bit_or, bit_xor, arith, take_at}
use Rattle.std.specs.Int.{w64, rotate_left}
use Rattle.std.proofs.lemmas.Nat.{shl-shr, shr_below, xor_lt, xor_shr}
use Rattle.std.proofs.lemmas.Nat.Bits.{and_high_mask}
use Rattle.des.specs.Bits.{bits_of, bits_of_word, zeros, xor_bits}
use Rattle.des.specs.Laws.BitLists.{length-bits_of}
use Rattle.des.proofs.BitParts.{take-bits_of, drop-bits_of, bits_of-shl, bits_of-or_shl, take-bits_of_xor}

-- the first half of a word that was shifted to the left by 32 is the last half of the word
pub take-bits_of_word_shl : (x : ℕ) → take 32 (bits_of_word (x * 2 ^ 32 % 2 ^ 64)) ≡ drop 32 (bits_of_word x)
take-bits_of_word_shl x =
    rw (bits_of-shl 32 32 x, drop-bits_of 32 32 x) (take_at (bits_of 32 x) (zeros 32) 32 (length-bits_of 32 x))

-- a word rotated by half its width has its halves swapped
pub bits_of_word-rotate_left : (word : ℕ) → word < 2 ^ 64
    → bits_of_word (rotate_left w64 word 32) ≡ drop 32 (bits_of_word word) ++ take 32 (bits_of_word word)
bits_of_word-rotate_left word fits =
    rw (take-bits_of 32 32 word, drop-bits_of 32 32 word)
    (bits_of-or_shl 32 32 word (word / 2 ^ 32) (shr_below word 32 32 fits))

-- the first half of a word, kept by a mask, xor another word, and shifted to the end
shr-xor_mask : (x y : ℕ) → x < 2 ^ 64 → bit_xor (bit_and x 0xffffffff00000000) y / 2 ^ 32 ≡ bit_xor x y / 2 ^ 32
shr-xor_mask x y fits =
    rw (xor_shr (bit_and x 0xffffffff00000000) y 32, xor_shr x y 32, and_high_mask 64 32 (omega arith) x fits)
    (rw shl-shr)

-- the last half of a word, and after it the first half xor the first half of another
pub bits_of_word-swapped : (x y : ℕ) → x < 2 ^ 64 → y < 2 ^ 64
    → bits_of_word (bit_or (x * 2 ^ 32 % 2 ^ 64) (bit_xor (bit_and x 0xffffffff00000000) y / 2 ^ 32))
    ≡ drop 32 (bits_of_word x) ++ xor_bits (take 32 (bits_of_word x)) (take 32 (bits_of_word y))
bits_of_word-swapped x y x_fits y_fits =
    rw (shr-xor_mask x y x_fits, drop-bits_of 32 32 x, ← take-bits_of_xor 32 32 x y, take-bits_of 32 32 (bit_xor x y))
    (bits_of-or_shl 32 32 x (bit_xor x y / 2 ^ 32) (shr_below (bit_xor x y) 32 32 (xor_lt 64 x y x_fits y_fits)))
