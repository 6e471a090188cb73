-- Rotations to the left, of lists of bits and of numbers.
use Rattle.std.proofs.Common.{◌≡◌, ℕ, ◌+◌, ◌-◌, ◌*◌, ◌/◌, ◌%◌, ◌^◌, ◌<◌, ◌≤◌, List, Bool, length, drop, arith, bit_and, bit_or, add_comm}
use Rattle.std.proofs.lemmas.Nat.{and_mask, or_lt, shl_whole, pow_pos, mod_below, shr_le, shr_below}
use Rattle.std.proofs.lemmas.List.{append_assoc, drop-append-le, take-append-le, drop-drop, length-drop}
use Rattle.std.proofs.Math.Seq.{take-add}
use Rattle.des.specs.Bits.{bits_of}
use Rattle.des.specs.KeySchedule.{rotate}
use Rattle.des.proofs.BitParts.{take-bits_of, drop-bits_of, bits_of-or_shl}

-- to rotate by m places and then by n is to rotate by m + n
pub rotate-rotate : (m n : ℕ) (half : List Bool) → m + n ≤ length half → rotate (rotate half m) n ≡ rotate half (m + n)
unfolding rotate
rotate-rotate m n half within =
    let fits : n ≤ length (drop m half) = omega (arith, length-drop m half) in
    rw (drop-append-le, take-append-le, drop-drop, append_assoc, take-add)

-- a number of k bits, shifted to the left in a word of w bits and masked, keeps its lowest k bits
and_mask-shl : (m k w x : ℕ) → k + m ≤ w → x < 2 ^ k → bit_and (x * 2 ^ m % 2 ^ w) (2 ^ k - 1) ≡ x * 2 ^ m % 2 ^ k
and_mask-shl m k w x fits within =
    rw (shl_whole x k m w within fits) (and_mask (x * 2 ^ m) k)

-- the shifts both ways give a number of k bits again
pub or_shifts-lt : (m n k w x : ℕ) → k + m ≤ w → x < 2 ^ k
    → bit_or (bit_and (x * 2 ^ m % 2 ^ w) (2 ^ k - 1)) (x / 2 ^ n) < 2 ^ k
or_shifts-lt m n k w x fits within =
    rw (and_mask-shl m k w x fits within)
    (or_lt k (x * 2 ^ m % 2 ^ k) (x / 2 ^ n) (mod_below (x * 2 ^ m) (2 ^ k) (pow_pos k)) (omega (arith, shr_le x n)))

-- the shifts both ways rotate the bits
pub bits_of-or_shifts : (m n k w x : ℕ) → m + n ≡ k → k + m ≤ w → x < 2 ^ k
    → bits_of k (bit_or (bit_and (x * 2 ^ m % 2 ^ w) (2 ^ k - 1)) (x / 2 ^ n)) ≡ rotate (bits_of k x) m
unfolding rotate
bits_of-or_shifts m n k w x same fits within =
    rw (and_mask-shl m k w x fits within, ← same, drop-bits_of m n x, take-bits_of m n x, add_comm m n)
    (bits_of-or_shl n m x (x / 2 ^ n) (shr_below x m n (rw same within)))
