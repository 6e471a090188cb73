-- The key of a serial number with a zero bit at a place, and zeros below, makes that of the number with a one there.
use Rattle.std.proofs.Common.{◌≡◌, ℕ, zero, suc, ◌+◌, ◌-◌, ◌*◌, ◌/◌, ◌%◌, ◌^◌, ◌<◌, ◌≤◌, ◌==◌, true, if◌then◌else◌, max, inl, inr, List, [], refl, ap, ap₂, sym, ◌∙◌, subst, arith, eq-eqb}
use Rattle.std.specs.Int.{bit_at}
use Rattle.std.proofs.Math.Nat.{pow-suc}
use Rattle.std.proofs.Math.Pow.{mod-mod-pow}
use Rattle.std.proofs.lemmas.Nat.{shr-shr, shr_high, mod_low, pow_pos}
use Rattle.std.proofs.lemmas.Nat.Bits.{bit_at_or, bit_at-pow_same}
use Rattle.std.proofs.lemmas.Bool.{cases_eq}
use Rattle.des_payment.specs.Dukpt.{next_key, ones_below, derived}
use Rattle.des_payment.specs.Terminals.{key_of}
use Rattle.des_payment.proofs.PlaceNumbers.{whole, shorter, bit_of_none, set_or}
use Rattle.des_payment.proofs.CounterPlaces.{cleared, cleared-register, derived-place, bit_at-counter}

-- below a place with zeros below it, no bit is set
pub no_ones : (counter p : ℕ) → counter % 2 ^ p ≡ 0 → ones_below p counter ≡ []
unfolding ones_below
no_ones counter zero none = refl
no_ones counter (suc p) none =
    rw (bit_of_none counter p none) (no_ones counter p (shorter counter p (suc p) (omega arith) none))

pub in_counter : (last p : ℕ) → p ≤ 21 → last % 2 ^ p ≡ 0 → last % 2 ^ 21 % 2 ^ p ≡ 0
in_counter last p inside none =
    let split : 21 ≡ (21 - p) + p = omega arith in
    ap (λ (x : ℕ). last % 2 ^ x % 2 ^ p) split ∙ mod-mod-pow last (21 - p) p ∙ none

module _ (last p : ℕ) (none : last % 2 ^ suc p ≡ 0) (inside : p < 21) where
  one : bit_at (last + 2 ^ p) p ≡ 1
  one =
      ap (λ (x : ℕ). bit_at x p) (sym (set_or last p none))
      ∙ bit_at_or last (2 ^ p) p
      ∙ ap₂ max (bit_of_none last p none) (bit_at-pow_same p)

  below : (last + 2 ^ p) % 2 ^ p ≡ 0
  below =
      let b : ℕ = last / 2 ^ p in
      let is : last ≡ b * 2 ^ p = whole last p (shorter last p (suc p) (omega arith) none) in
      let sum : last + 2 ^ p ≡ (b + 1) * 2 ^ p + 0 = omega arith in
      ap (λ (x : ℕ). x % 2 ^ p) sum ∙ mod_low (b + 1) p 0 (pow_pos p)

  cleared_next : cleared (last + 2 ^ p) p ≡ last + 2 ^ p
  cleared_next = sym (whole (last + 2 ^ p) p below)

  -- the bits above stay
  above : (m : ℕ) → p < m → (last + 2 ^ p) / 2 ^ m ≡ last / 2 ^ m
  above m high =
      let a : ℕ = last / 2 ^ suc p in
      let split : suc p + (m - suc p) ≡ m = omega arith in
      let is : last + 2 ^ p ≡ a * 2 ^ suc p + 2 ^ p = ap (λ (x : ℕ). x + 2 ^ p) (whole last (suc p) none) in
      let quotient : (last + 2 ^ p) / 2 ^ suc p ≡ a =
      ap (λ (x : ℕ). x / 2 ^ suc p) is ∙ shr_high a (suc p) (2 ^ p) (omega (arith, pow-suc 2 p, pow_pos p)) in
      ap (λ (x : ℕ). (last + 2 ^ p) / 2 ^ x) (sym split)
      ∙ sym (shr-shr (last + 2 ^ p) (suc p) (m - suc p))
      ∙ ap (λ (x : ℕ). x / 2 ^ (m - suc p)) quotient
      ∙ shr-shr last (suc p) (m - suc p)
      ∙ ap (λ (x : ℕ). last / 2 ^ x) split

  -- at the place the next key is made
  here : (key : List ℕ) → derived (ones_below (suc p) ((last + 2 ^ p) % 2 ^ 21)) (cleared (last + 2 ^ p) (suc p)) key
      ≡ next_key (last + 2 ^ p) (derived (ones_below (suc p) (last % 2 ^ 21)) (cleared last (suc p)) key)
  unfolding derived
  here key =
      let next : ℕ = last + 2 ^ p in
      let bit : bit_at (next % 2 ^ 21) p ≡ 1 = bit_at-counter next p inside ∙ one in
      let test : (bit_at (next % 2 ^ 21) p == 1) ≡ true = eq-eqb (bit_at (next % 2 ^ 21) p) 1 bit in
      let none_set : ones_below p (next % 2 ^ 21) ≡ [] =
      no_ones (next % 2 ^ 21) p (in_counter next p (omega arith) below) in
      let made = rw (test, none_set) at (derived-place next p key inside) in
      sym made
      ∙ ap (λ (register : ℕ). next_key register key) cleared_next
      ∙ rw (no_ones (last % 2 ^ 21) (suc p) (in_counter last (suc p) (omega arith) none)) refl

  -- above, the keys are the same
  upward : (m : ℕ) (key : List ℕ) → p < m → m ≤ 21
      → derived (ones_below m ((last + 2 ^ p) % 2 ^ 21)) (cleared (last + 2 ^ p) m) key
      ≡ next_key (last + 2 ^ p) (derived (ones_below m (last % 2 ^ 21)) (cleared last m) key)
  upward zero key low high = absurd (omega arith)
  upward (suc n) key low high =
      let next : ℕ = last + 2 ^ p in
      elim (cases_eq n p) [
        | inl same ↦
            subst (λ (k : ℕ). derived (ones_below (suc k) (next % 2 ^ 21)) (cleared next (suc k)) key
            ≡ next_key next (derived (ones_below (suc k) (last % 2 ^ 21)) (cleared last (suc k)) key)) (sym same)
            (here key)
        | inr other ↦
            let over : p < n = omega arith in
            let quotient : next / 2 ^ n ≡ last / 2 ^ n = above n over in
            let clear : cleared next n ≡ cleared last n = ap (λ (x : ℕ). x * 2 ^ n) quotient in
            let bit : bit_at (next % 2 ^ 21) n ≡ bit_at (last % 2 ^ 21) n =
            bit_at-counter next n (omega arith) ∙ ap (λ (x : ℕ). x % 2) quotient
            ∙ sym (bit_at-counter last n (omega arith)) in
            let after : List ℕ = if bit_at (last % 2 ^ 21) n == 1 then next_key (cleared last n) key else key in
            sym (derived-place next n key (omega arith))
            ∙ ap₂ (λ (b register : ℕ). derived (ones_below n (next % 2 ^ 21)) (cleared next n)
            (if b == 1 then next_key register key else key)) bit clear
            ∙ upward n after over (omega arith)
            ∙ ap (next_key next) (derived-place last n key (omega arith))
      ]

  pub key_of-set : (initial : List ℕ) → key_of initial (last + 2 ^ p) ≡ next_key (last + 2 ^ p) (key_of initial last)
  key_of-set initial =
      let next : ℕ = last + 2 ^ p in
      ap (λ (register : ℕ). derived (ones_below 21 (next % 2 ^ 21)) register initial) (sym (cleared-register next))
      ∙ upward 21 initial inside (omega arith)
      ∙ ap (λ (register : ℕ). next_key next (derived (ones_below 21 (last % 2 ^ 21)) register initial))
      (cleared-register last)
