-- The future keys from one serial number to the next.
use Rattle.std.proofs.Common.{◌≡◌, ℕ, zero, suc, ◌+◌, ◌-◌, ◌*◌, ◌/◌, ◌%◌, ◌^◌, ◌<◌, ◌≤◌, inl, inr, List, bit_or, ap, sym, ◌∙◌, subst, arith}
use Rattle.std.specs.Int.{bit_at}
use Rattle.std.specs.Int.RustNames.{count_ones}
use Rattle.std.proofs.lemmas.Nat.{or_lt, shr_split, mod_low, mod_below, pow_pos, pow_below, div-mul-add}
use Rattle.std.proofs.lemmas.Bool.{cases_eq, cases_lt}
use Rattle.des_payment.specs.Dukpt.{IsUsable}
use Rattle.des_fast.specs.Transposition.{block_at}
use Rattle.des_payment.specs.Terminals.{key_of, next_at, HasFutureKeys}
use Rattle.des_payment.proofs.PlaceNumbers.{whole, one_more, set_or, ones_more}
use Rattle.des_payment.proofs.FutureKeys.{in_counter}

-- what holds of a place, by the quotient of the serial number there
abbrev pub IsFuture : List ℕ → List (List ℕ) → ℕ → ℕ → Type 0
IsFuture initial keys place quotient = quotient % 2 ≡ 0 → IsUsable ((quotient + 1) * 2 ^ place % 2 ^ 21)
    → block_at keys place ≡ key_of initial ((quotient + 1) * 2 ^ place)

pub next_at-zeros : (last p : ℕ) → last % 2 ^ p ≡ 0 → next_at last p ≡ last + 2 ^ p
next_at-zeros last p none =
    let b : ℕ = last / 2 ^ p in
    let is : last ≡ b * 2 ^ p = whole last p none in
    omega arith

-- a number has the quotient of the one after it, unless that has zeros below the place
pub quotient_same : (n m p : ℕ) → m ≡ n + 1 → ¬ (m % 2 ^ p ≡ 0) → n / 2 ^ p ≡ m / 2 ^ p
quotient_same n m p after some =
    let d : ℕ = m / 2 ^ p in
    let r : ℕ = m % 2 ^ p in
    let small : r < 2 ^ p = mod_below m (2 ^ p) (pow_pos p) in
    let is : n ≡ d * 2 ^ p + (r - 1) = omega (arith, shr_split m p) in
    ap (λ (x : ℕ). x / 2 ^ p) is ∙ div-mul-add d (2 ^ p) (r - 1) (omega arith)

-- the counter of the next at a place with zeros below has a one bit more
pub ones-next_at : (last p : ℕ) → p < 21 → last % 2 ^ p ≡ 0 → bit_at last p ≡ 0
    → count_ones (next_at last p % 2 ^ 21) ≡ count_ones (last % 2 ^ 21) + 1
ones-next_at last p inside none bit =
    let counter : ℕ = last % 2 ^ 21 in
    let zeros : counter % 2 ^ suc p ≡ 0 = in_counter last (suc p) (omega arith) (one_more last p none bit) in
    let low : counter < 2 ^ 21 = mod_below last (2 ^ 21) (pow_pos 21) in
    let or_low : bit_or counter (2 ^ p) < 2 ^ 21 = or_lt 21 counter (2 ^ p) low (pow_below p 21 inside) in
    let sum_low : counter + 2 ^ p < 2 ^ 21 = subst (λ (x : ℕ). x < 2 ^ 21) (set_or counter p zeros) or_low in
    let is : last + 2 ^ p ≡ last / 2 ^ 21 * 2 ^ 21 + (counter + 2 ^ p) = omega (arith, shr_split last 21) in
    let next : next_at last p % 2 ^ 21 ≡ counter + 2 ^ p =
    ap (λ (x : ℕ). x % 2 ^ 21) (next_at-zeros last p none ∙ is)
    ∙ mod_low (last / 2 ^ 21) 21 (counter + 2 ^ p) sum_low in
    ap count_ones next ∙ ones_more counter p zeros

plus_zero : (c : ℕ) → c ≡ c + 0
plus_zero c = omega arith

module _ (initial : List ℕ) (keys : List (List ℕ)) where
  -- a serial number more that is no transaction's
  skip : (last next : ℕ) → next ≡ last + 1 → 10 < count_ones (next % 2 ^ 21)
      → HasFutureKeys initial last keys → HasFutureKeys initial next keys
  skip last next after many has place low bit usable =
      elim (cases_eq (next % 2 ^ place) 0) [
        | inl none ↦ absurd (omega (arith, ones-next_at next place low none bit, usable.1))
        | inr some ↦
            subst (IsFuture initial keys place) (quotient_same last next place after some) (has place low) bit usable
      ]

  -- serial numbers that are no transaction's, of one register
  pub skip_to : (r c d : ℕ) → c + d < 2 ^ 21 → ((other : ℕ) → c < other → other ≤ c + d → ¬ (IsUsable other))
      → HasFutureKeys initial (r * 2 ^ 21 + c) keys → HasFutureKeys initial (r * 2 ^ 21 + (c + d)) keys
  skip_to r c zero low none has =
      subst (λ (x : ℕ). HasFutureKeys initial (r * 2 ^ 21 + x) keys) (plus_zero c) has
  skip_to r c (suc d) low none has =
      let before : HasFutureKeys initial (r * 2 ^ 21 + (c + d)) keys =
      skip_to r c d (omega arith) (λ other after within. none other after (omega arith)) has in
      let counter : (r * 2 ^ 21 + (c + suc d)) % 2 ^ 21 ≡ c + suc d = mod_low r 21 (c + suc d) low in
      let many : 10 < count_ones (c + suc d) =
      elim (cases_lt 10 (count_ones (c + suc d))) [
        | inl more ↦ more
        | inr few ↦ absurd (none (c + suc d) (omega arith) (omega arith) (low, few))
      ] in
      skip (r * 2 ^ 21 + (c + d)) (r * 2 ^ 21 + (c + suc d)) (omega arith)
      (subst (λ (x : ℕ). 10 < count_ones x) (sym counter) many) before
