-- The register of a serial number at each place of its counter.
use Rattle.std.proofs.Common.{◌≡◌, ℕ, suc, ◌+◌, ◌-◌, ◌*◌, ◌/◌, ◌%◌, ◌^◌, ◌<◌, ◌==◌, if◌then◌else◌, true, false, inl, inr, List, bit_or, refl, ap, sym, ◌∙◌, arith, eq-eqb}
use Rattle.std.specs.Int.{bit_at}
use Rattle.std.proofs.Math.Nat.{pow-suc, div-div-eq-div-mul, mul_comm, mul_assoc, one-le-pow}
use Rattle.std.proofs.lemmas.Nat.{or_shifted, shr_split}
use Rattle.std.proofs.lemmas.Nat.Bits.{bit_at-lt, bit_at_cat_low}
use Rattle.std.proofs.lemmas.Bool.{cases_eq, ne_eqb}
use Rattle.des_payment.specs.Dukpt.{next_key, ones_below, derived}
use Rattle.des_payment.proofs.Derivations.{derived-one, derived-zero}

-- a number with the bits below a place cleared
abbrev pub cleared : ℕ → ℕ → ℕ
cleared number n = number / 2 ^ n * 2 ^ n

-- the half of a number, without and with a bit
even : (q r power : ℕ) → q ≡ r * 2 → q * power ≡ r * (power * 2)
even q r power is =
    ap (λ (x : ℕ). x * power) is ∙ mul_assoc r 2 power ∙ ap (λ (x : ℕ). r * x) (mul_comm 2 power)

more : (x power : ℕ) → (x + 1) * power ≡ x * power + power
more x power = mul_comm (x + 1) power ∙ omega (arith, mul_comm x power)

odd : (q r power : ℕ) → q ≡ r * 2 + 1 → q * power ≡ r * (power * 2) + power
odd q r power is =
    ap (λ (x : ℕ). x * power) is
    ∙ more (r * 2) power
    ∙ ap (λ (x : ℕ). x + power) (even (r * 2) r power refl)

module _ (number n : ℕ) where
  quotient : number / 2 ^ suc n ≡ number / 2 ^ n / 2
  quotient = ap (λ (d : ℕ). number / d) (pow-suc 2 n) ∙ sym (div-div-eq-div-mul number (2 ^ n) 2)

  cleared-suc : cleared number (suc n) ≡ number / 2 ^ suc n * (2 ^ n * 2)
  cleared-suc = ap (λ (power : ℕ). number / 2 ^ suc n * power) (pow-suc 2 n)

  below : 2 ^ n < 2 ^ suc n
  below = omega (arith, pow-suc 2 n, one-le-pow n 2 (omega arith))

  -- the bit at the place, if it is one, is set
  cleared-one : bit_at number n ≡ 1 → cleared number n ≡ bit_or (cleared number (suc n)) (2 ^ n)
  cleared-one one =
      let q : ℕ = number / 2 ^ n in
      let r : ℕ = number / 2 ^ suc n in
      let bit : q % 2 ≡ 1 = one in
      let is : q ≡ r * 2 + 1 = omega (arith, quotient, bit) in
      odd q r (2 ^ n) is
      ∙ ap (λ (x : ℕ). x + 2 ^ n) (sym cleared-suc)
      ∙ sym (or_shifted r (suc n) (2 ^ n) below)

  cleared-zero : bit_at number n ≡ 0 → cleared number n ≡ cleared number (suc n)
  cleared-zero none =
      let q : ℕ = number / 2 ^ n in
      let r : ℕ = number / 2 ^ suc n in
      let bit : q % 2 ≡ 0 = none in
      let is : q ≡ r * 2 = omega (arith, quotient, bit) in
      even q r (2 ^ n) is ∙ sym cleared-suc

-- the counter has the lowest bits
pub bit_at-counter : (last n : ℕ) → n < 21 → bit_at (last % 2 ^ 21) n ≡ bit_at last n
bit_at-counter last n low =
    sym (bit_at_cat_low (last / 2 ^ 21) 21 (last % 2 ^ 21) n low)
    ∙ ap (λ (x : ℕ). bit_at x n) (shr_split last 21)

-- the register of a serial number is that above the counter
pub cleared-register : (last : ℕ) → cleared last 21 ≡ last - last % 2 ^ 21
cleared-register last = omega (arith, shr_split last 21)

-- a place more: the next key if the counter's bit is one, and else the key as it is
pub derived-place : (last n : ℕ) (key : List ℕ) → n < 21
    → derived (ones_below n (last % 2 ^ 21)) (cleared last n)
    (if bit_at (last % 2 ^ 21) n == 1 then next_key (cleared last n) key else key)
    ≡ derived (ones_below (suc n) (last % 2 ^ 21)) (cleared last (suc n)) key
derived-place last n key low =
    let counter : ℕ = last % 2 ^ 21 in
    elim (cases_eq (bit_at counter n) 1) [
      | inl one ↦
          let test : (bit_at counter n == 1) ≡ true = eq-eqb (bit_at counter n) 1 one in
          let set = cleared-one last n (sym (bit_at-counter last n low) ∙ one) in
          rw test
          (sym (derived-one counter (cleared last (suc n)) key n (suc n) (cleared last n) refl one set))
      | inr other ↦
          let test : (bit_at counter n == 1) ≡ false = ne_eqb (bit_at counter n) 1 other in
          let none : bit_at counter n ≡ 0 = omega (arith, bit_at-lt counter n) in
          let kept = cleared-zero last n (sym (bit_at-counter last n low) ∙ none) in
          rw test
          (ap (λ (register : ℕ). derived (ones_below n counter) register key) kept
          ∙ sym (derived-zero counter (cleared last (suc n)) key n (suc n) refl other))
    ]
