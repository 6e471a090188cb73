-- The future keys if one is taken.
use Rattle.std.proofs.Common.{◌≡◌, ℕ, zero, suc, ◌+◌, ◌-◌, ◌*◌, ◌/◌, ◌%◌, ◌^◌, ◌<◌, inl, inr, List, bit_or, refl, ap, sym, ◌∙◌, subst, arith}
use Rattle.std.specs.Int.{bit_at}
use Rattle.std.specs.Int.RustNames.{count_ones}
use Rattle.std.proofs.Math.Nat.{suc-mul}
use Rattle.std.proofs.Math.Pow.{mod-mod-pow}
use Rattle.std.proofs.lemmas.Nat.{pow_pos, div-mul-add}
use Rattle.std.proofs.lemmas.Nat.Bits.{bit_at-zero}
use Rattle.std.proofs.lemmas.Bool.{cases_eq, cases_lt}
use Rattle.des_payment.specs.Dukpt.{next_key, derived, IsUsable}
use Rattle.des_fast.specs.Transposition.{block_at}
use Rattle.des_payment.specs.Terminals.{key_of, next_at, HasFutureKeys}
use Rattle.des_payment.proofs.PlaceNumbers.{whole, shorter, one_more, bit_of_none, set_or}
use Rattle.des_payment.proofs.CounterPlaces.{bit_at-counter}
use Rattle.des_payment.proofs.FutureKeys.{no_ones, key_of-set}
use Rattle.des_payment.proofs.FutureSteps.{IsFuture, next_at-zeros, quotient_same, ones-next_at}

-- the key that a register of a place with zeros below gets
written_key : (initial key : List ℕ) (last place : ℕ) → place < 21 → last % 2 ^ place ≡ 0 → bit_at last place ≡ 0
    → key ≡ key_of initial last → next_key (bit_or last (2 ^ place)) key ≡ key_of initial (next_at last place)
written_key initial key last place low none bit is =
    let zeros : last % 2 ^ suc place ≡ 0 = one_more last place none bit in
    ap (λ (register : ℕ). next_key register key) (set_or last place zeros)
    ∙ ap (next_key (last + 2 ^ place)) is
    ∙ sym (key_of-set last place zeros low initial)
    ∙ ap (key_of initial) (sym (next_at-zeros last place none))

-- before the first transaction: all registers are written from the initial key
key_of-none : (initial : List ℕ) (last : ℕ) → last % 2 ^ 21 ≡ 0 → initial ≡ key_of initial last
unfolding derived
key_of-none initial last none =
    rw (no_ones (last % 2 ^ 21) 21 (ap (λ (x : ℕ). x % 2 ^ 21) none)) refl

pub first : (initial : List ℕ) (keys : List (List ℕ)) (last : ℕ) → last % 2 ^ 21 ≡ 0
    → ((k : ℕ) → k < 21 → block_at keys k ≡ next_key (bit_or last (2 ^ k)) initial)
    → HasFutureKeys initial last keys
first initial keys last none written place low bit usable =
    written place low
    ∙ written_key initial initial last place low (shorter last place 21 (omega arith) none) bit
    (key_of-none initial last none)

before : (q power last : ℕ) → 0 < q → 0 < power → last ≡ q * power → last - 1 ≡ (q - 1) * power + (power - 1)
before zero power last some _ is = absurd (omega arith)
before (suc q) power last some positive is =
    let product : suc q * power ≡ q * power + power = suc-mul q power in
    let less : suc q - 1 ≡ q = omega arith in
    omega (arith, ap (λ (x : ℕ). x * power) less)

-- the place of the lowest one bit of the counter
module _ (last p : ℕ) (low : p < 21) (one_there : bit_at (last % 2 ^ 21) p ≡ 1)
    (none_below : last % 2 ^ 21 % 2 ^ p ≡ 0) where
  none : last % 2 ^ p ≡ 0
  none =
      let split : (21 - p) + p ≡ 21 = omega arith in
      sym (mod-mod-pow last (21 - p) p) ∙ ap (λ (x : ℕ). last % 2 ^ x % 2 ^ p) split ∙ none_below

  one : bit_at last p ≡ 1
  one = sym (bit_at-counter last p low) ∙ one_there

  -- the number is not zero, and a place of a zero bit with zeros below is below the place
  positive : 0 < last
  positive =
      elim (cases_lt 0 last) [
        | inl more ↦ more
        | inr less ↦
            let is : last ≡ 0 = omega arith in
            absurd (omega (arith, one, ap (λ (x : ℕ). bit_at x p) is, bit_at-zero p))
      ]

  below_one : (place : ℕ) → last % 2 ^ place ≡ 0 → bit_at last place ≡ 0 → place < p
  below_one place zeros bit =
      elim (cases_lt place p) [
        | inl less ↦ less
        | inr more ↦
            elim (cases_eq place p) [
              | inl same ↦ absurd (omega (arith, one, bit, ap (bit_at last) same))
              | inr other ↦
                  absurd (omega (arith, one, bit_of_none last p (shorter last (suc p) place (omega arith) zeros)))
            ]
      ]

  is_quotient : last ≡ last / 2 ^ p * 2 ^ p
  is_quotient = whole last p none

  -- the quotient of the number before it
  quotient_before : (last - 1) / 2 ^ p ≡ last / 2 ^ p - 1
  quotient_before =
      let q : ℕ = last / 2 ^ p in
      let odd : q % 2 ≡ 1 = one in
      let is : last - 1 ≡ (q - 1) * 2 ^ p + (2 ^ p - 1) = before q (2 ^ p) last (omega arith) (pow_pos p) is_quotient in
      ap (λ (x : ℕ). x / 2 ^ p) is ∙ div-mul-add (q - 1) (2 ^ p) (2 ^ p - 1) (omega (arith, pow_pos p))

  module _ (initial : List ℕ) (keys : List (List ℕ)) (usable : IsUsable (last % 2 ^ 21))
      (has : HasFutureKeys initial (last - 1) keys) where
    -- the register of the place has the key
    pub taken : block_at keys p ≡ key_of initial last
    taken =
        let q : ℕ = last / 2 ^ p in
        let odd : q % 2 ≡ 1 = one in
        let even : (q - 1) % 2 ≡ 0 = omega arith in
        let after : q - 1 + 1 ≡ q = omega arith in
        let next : (q - 1 + 1) * 2 ^ p ≡ last = ap (λ (x : ℕ). x * 2 ^ p) after ∙ sym is_quotient in
        let there : IsFuture initial keys p (q - 1) = subst (IsFuture initial keys p) quotient_before (has p low) in
        there even (subst (λ (x : ℕ). IsUsable (x % 2 ^ 21)) (sym next) usable) ∙ ap (key_of initial) next

    -- the registers of the places below get keys of its making, and those above keep theirs
    pub kept : (new : List (List ℕ)) (key : List ℕ) → key ≡ key_of initial last
        → ((k : ℕ) → k < p → count_ones (last % 2 ^ 21) < 10 → block_at new k ≡ next_key (bit_or last (2 ^ k)) key)
        → ((k : ℕ) → p < k → block_at new k ≡ block_at keys k)
        → HasFutureKeys initial last new
    kept new key is written stays place inside bit next_usable =
        elim (cases_eq (last % 2 ^ place) 0) [
          | inl zeros ↦
              let below : place < p = below_one place zeros bit in
              written place below (omega (arith, ones-next_at last place inside zeros bit, next_usable.1))
              ∙ written_key initial key last place inside zeros bit is
          | inr some ↦
              let over : p < place =
              elim (cases_lt p place) [
                | inl more ↦ more
                | inr less ↦ absurd (some (shorter last place p less none))
              ] in
              let after : last ≡ last - 1 + 1 = omega (arith, positive) in
              stays place over
              ∙ subst (IsFuture initial keys place) (quotient_same (last - 1) last place after some) (has place inside)
              bit next_usable
        ]
