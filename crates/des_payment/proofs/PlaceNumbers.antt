-- Numbers at a place: with a one bit there, or a zero, and zeros below.
use Rattle.std.proofs.Common.{◌≡◌, ℕ, zero, suc, ◌+◌, ◌-◌, ◌*◌, ◌/◌, ◌%◌, ◌^◌, ◌<◌, ◌≤◌, bit_or, refl, ap, sym, ◌∙◌, arith}
use Rattle.std.specs.Int.{bit_at}
use Rattle.std.specs.Int.RustNames.{count_ones}
use lib.Count.{ones_in}
use Rattle.std.proofs.Math.Nat.{pow-suc}
use Rattle.std.proofs.lemmas.Nat.{or_shifted, shr_split, mod-pow-add, ones_cat, pow_pos}
use Rattle.std.proofs.lemmas.Nat.Bits.{bit_at-lt}

-- a number with zeros below a place stands for its quotient
pub whole : (n p : ℕ) → n % 2 ^ p ≡ 0 → n ≡ n / 2 ^ p * 2 ^ p
whole n p none = omega (arith, shr_split n p)

-- fewer digits of zeros
pub shorter : (n k p : ℕ) → k ≤ p → n % 2 ^ p ≡ 0 → n % 2 ^ k ≡ 0
shorter n k p low none =
    let split : (p - k) + k ≡ p = omega arith in
    omega (arith, mod-pow-add n (p - k) k, ap (λ (x : ℕ). n % 2 ^ x) split)

-- the bits up to a place
parts : (n p : ℕ) → n % 2 ^ suc p ≡ bit_at n p * 2 ^ p + n % 2 ^ p
parts n p =
    let split : suc p ≡ 1 + p = omega arith in
    ap (λ (x : ℕ). n % 2 ^ x) split ∙ mod-pow-add n 1 p

pub one_more : (n p : ℕ) → n % 2 ^ p ≡ 0 → bit_at n p ≡ 0 → n % 2 ^ suc p ≡ 0
one_more n p none bit = omega (arith, parts n p, ap (λ (b : ℕ). b * 2 ^ p) bit)

digit : (b power : ℕ) → 0 < power → b < 2 → b * power ≡ 0 → b ≡ 0
digit zero power _ _ _ = refl
digit (suc b) power some small is = absurd (grind arith)

pub bit_of_none : (n p : ℕ) → n % 2 ^ suc p ≡ 0 → bit_at n p ≡ 0
bit_of_none n p none =
    digit (bit_at n p) (2 ^ p) (pow_pos p) (bit_at-lt n p) (omega (arith, parts n p))

-- the number with a one at the place: the sum is an or
pub set_or : (n p : ℕ) → n % 2 ^ suc p ≡ 0 → bit_or n (2 ^ p) ≡ n + 2 ^ p
set_or n p none =
    let is : n ≡ n / 2 ^ suc p * 2 ^ suc p = whole n (suc p) none in
    ap (λ (x : ℕ). bit_or x (2 ^ p)) is
    ∙ or_shifted (n / 2 ^ suc p) (suc p) (2 ^ p) (omega (arith, pow-suc 2 p, pow_pos p))
    ∙ ap (λ (x : ℕ). x + 2 ^ p) (sym is)

ones_of_power : (p : ℕ) → count_ones (2 ^ p) ≡ 1
unfolding count_ones ones_in
ones_of_power p =
    let cat : count_ones (1 * 2 ^ p + 0) ≡ count_ones 1 + count_ones 0 = ones_cat p 1 0 (pow_pos p) in
    ap count_ones (omega arith) ∙ cat

ones_of_zero : count_ones 0 ≡ 0
unfolding count_ones ones_in
ones_of_zero = refl

plus-zero : (x : ℕ) → x + 0 ≡ x
plus-zero x = omega arith

-- it has a one bit more
pub ones_more : (n p : ℕ) → n % 2 ^ suc p ≡ 0 → count_ones (n + 2 ^ p) ≡ count_ones n + 1
ones_more n p none =
    let a : ℕ = n / 2 ^ suc p in
    let is : n ≡ a * 2 ^ suc p = whole n (suc p) none in
    let plain : count_ones (a * 2 ^ suc p + 0) ≡ count_ones a + count_ones 0 = ones_cat (suc p) a 0 (pow_pos (suc p)) in
    let set : count_ones (a * 2 ^ suc p + 2 ^ p) ≡ count_ones a + count_ones (2 ^ p) =
    ones_cat (suc p) a (2 ^ p) (omega (arith, pow-suc 2 p, pow_pos p)) in
    ap (λ (x : ℕ). count_ones (x + 2 ^ p)) is
    ∙ set
    ∙ omega (arith, plain, ones_of_power p, ap count_ones is, ones_of_zero, ap count_ones (plus-zero (a * 2 ^ suc p)))
