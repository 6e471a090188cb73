-- Parts of a number's list of bits: its first and its last bits and each of them, and what shifts, `|` and `^`
-- make of them.
use Rattle.std.proofs.Common.{◌≡◌, ℕ, zero, suc, ◌+◌, ◌-◌, ◌*◌, ◌/◌, ◌%◌, ◌^◌, ◌<◌, ◌≤◌, ◌==◌, Bool, true, false, List, ◌∷◌, ◌++◌, take, drop, get_or, bit_and, bit_or, bit_xor, length, refl, ap, ap₂, sym, ◌∙◌, arith, add-zero, pow_pos, take_at, drop_at}
use Rattle.std.specs.Int.{bit_at}
use Rattle.std.specs.Int.Bits.{or_zero_r}
use Rattle.std.proofs.lemmas.Nat.{shl-shr, mod-pow-add, and_mask, or_shifted, xor_shr}
use Rattle.std.proofs.Math.Nat.{mul-mod_left}
use Rattle.std.proofs.lemmas.Nat.Bits.{bit_at-zero, bit_at-lt, bit_at_xor}
use Rattle.std.proofs.lemmas.Bool.{eqb-true, agree_below, agree_below_at}
use Rattle.std.proofs.lemmas.Bool.Decides.{nat_tests}
use Rattle.des.specs.Bits.{bits_of, zeros, bit, xor, xor_bits}
use Rattle.des.specs.Laws.BitLists.{length-bits_of, bits_of-cat, bits_of-split, bits_of-mod, number_of-bits_of}

-- the first m bits of m + n are the bits of the quotient by 2 ^ n
pub take-bits_of : (m n x : ℕ) → take m (bits_of (m + n) x) ≡ bits_of m (x / 2 ^ n)
take-bits_of m n x = rw bits_of-split (take_at (bits_of m (x / 2 ^ n)) (bits_of n x) m (length-bits_of m (x / 2 ^ n)))

-- the last n bits of m + n are the lowest n bits
pub drop-bits_of : (m n x : ℕ) → drop m (bits_of (m + n) x) ≡ bits_of n x
drop-bits_of m n x = rw bits_of-split (drop_at (bits_of m (x / 2 ^ n)) (bits_of n x) m (length-bits_of m (x / 2 ^ n)))

-- the bit at an index from 0, counted from the most significant
pub get_or-bits_of : (n x i : ℕ) → i < n → get_or (bits_of n x) i false ≡ (bit_at x (n - 1 - i) == 1)
unfolding bits_of
get_or-bits_of zero x i within = absurd (omega arith)
get_or-bits_of (suc n) x zero within = ap (λ (k : ℕ). bit_at x k == 1) (omega arith)
get_or-bits_of (suc n) x (suc i) within =
    get_or-bits_of n x i (omega arith) ∙ ap (λ (k : ℕ). bit_at x k == 1) (omega arith)

-- a position in n bits
abbrev pub IsPositionIn : ℕ → ℕ → Type 0
IsPositionIn n position = (1 ≤ position) × (position ≤ n)

-- the bit at a position, counted from the most significant
pub bit-bits_of : (n x i : ℕ) → IsPositionIn n i → bit (bits_of n x) i ≡ (bit_at x (n - i) == 1)
bit-bits_of n x i inside =
    get_or-bits_of n x (i - 1) (omega arith) ∙ ap (λ (k : ℕ). bit_at x k == 1) (omega arith)

-- zero has no bit set
bits_of-zero : (n : ℕ) → bits_of n 0 ≡ zeros n
unfolding bits_of
bits_of-zero zero = refl
bits_of-zero (suc n) = rw (bit_at-zero n, bits_of-zero n)

-- a mask of the lowest n bits keeps them
pub bits_of-and_mask : (n x : ℕ) → bits_of n (bit_and x (2 ^ n - 1)) ≡ bits_of n x
bits_of-and_mask n x = rw and_mask (bits_of-mod n x)

-- a number whose last n bits are zero is divisible by 2 ^ n
pub mod-zeros : (m n x : ℕ) (front : List Bool) → length front ≡ m → bits_of (m + n) x ≡ front ++ zeros n
    → x % 2 ^ n ≡ 0
mod-zeros m n x front size same =
    let last : drop m (front ++ zeros n) ≡ zeros n = drop_at front (zeros n) m size in
    rw (← number_of-bits_of n x, ← drop-bits_of m n x, same, last, ← bits_of-zero n, number_of-bits_of n 0)
    (omega (arith, pow_pos n))

-- a shift to the left by k places in j + k bits keeps the lowest j bits
pub shl-mod : (j k x : ℕ) → x * 2 ^ k % 2 ^ (j + k) ≡ x % 2 ^ j * 2 ^ k
shl-mod j k x = rw (mod-pow-add (x * 2 ^ k) j k, shl-shr x k, mul-mod_left x (2 ^ k)) (add-zero (x % 2 ^ j * 2 ^ k))

-- a number of n bits put in the place that a shift to the left made
pub bits_of-or_shl : (m n x low : ℕ) → low < 2 ^ n
    → bits_of (m + n) (bit_or (x * 2 ^ n % 2 ^ (m + n)) low) ≡ bits_of m x ++ bits_of n low
bits_of-or_shl m n x low fits =
    rw (shl-mod m n x, or_shifted (x % 2 ^ m) n low fits, bits_of-cat m n (x % 2 ^ m) low fits, bits_of-mod m x)

-- a shift to the left puts zeros after the bits
pub bits_of-shl : (m n x : ℕ) → bits_of (m + n) (x * 2 ^ n % 2 ^ (m + n)) ≡ bits_of m x ++ zeros n
bits_of-shl m n x =
    ap (bits_of (m + n)) (sym (or_zero_r (x * 2 ^ n % 2 ^ (m + n))))
    ∙ bits_of-or_shl m n x 0 (pow_pos n)
    ∙ ap (λ (rest : List Bool). bits_of m x ++ rest) (bits_of-zero n)

-- addition modulo 2 of two numbers below 2, as tests
sum_test : (a b : ℕ) → a < 2 → b < 2 → ((a + b) % 2 == 1) ≡ xor (a == 1) (b == 1)
sum_test a b p q = grind (arith, nat_tests)

-- the bit of a xor at a place is the xor of the bits there
pub bit_at-xor : (a b i : ℕ) → (bit_at (bit_xor a b) i == 1) ≡ xor (bit_at a i == 1) (bit_at b i == 1)
bit_at-xor a b i =
    ap (λ (k : ℕ). k == 1) (bit_at_xor a b i) ∙ sum_test (bit_at a i) (bit_at b i) (bit_at-lt a i) (bit_at-lt b i)

-- the xor of two numbers has the xor of their bits
pub bits_of-xor : (n a b : ℕ) → bits_of n (bit_xor a b) ≡ xor_bits (bits_of n a) (bits_of n b)
unfolding bits_of xor_bits
bits_of-xor zero a b = refl
bits_of-xor (suc n) a b = ap₂ ◌∷◌ (bit_at-xor a b n) (bits_of-xor n a b)

-- the first m bits of a xor are the xor of the first m bits
pub take-bits_of_xor : (m n a b : ℕ)
    → take m (bits_of (m + n) (bit_xor a b)) ≡ xor_bits (take m (bits_of (m + n) a)) (take m (bits_of (m + n) b))
take-bits_of_xor m n a b =
    rw (take-bits_of m n (bit_xor a b), take-bits_of m n a, take-bits_of m n b, xor_shr)
    (bits_of-xor m (a / 2 ^ n) (b / 2 ^ n))

-- ---- tests at numbers

-- two functions with the same values at each number below a numeral
pub same_below : (f g : ℕ → ℕ) (n x : ℕ) → agree_below (λ y. f y == g y) (λ y. true) n ≡ true → x < n → f x ≡ g x
same_below f g n x each below = eqb-true (f x) (g x) (agree_below_at (λ y. f y == g y) (λ y. true) n x each below)
