-- The derivation of a transaction's key, from one bit of the counter to the next.
use Rattle.std.proofs.Common.{◌≡◌, ℕ, suc, ◌^◌, ◌==◌, true, false, List, bit_or, refl, eq-eqb}
use Rattle.std.specs.Int.{bit_at}
use Rattle.std.proofs.lemmas.Bool.{ne_eqb}
use Rattle.des_payment.specs.Dukpt.{next_key, ones_below, derived}

module _ (counter register : ℕ) (key : List ℕ) where
  -- at a place where the counter has a one bit, the bit is set in the register, and the next key is made
  pub derived-one : (n p set : ℕ) → p ≡ suc n → bit_at counter n ≡ 1 → set ≡ bit_or register (2 ^ n)
      → derived (ones_below p counter) register key ≡ derived (ones_below n counter) set (next_key set key)
  unfolding ones_below derived
  derived-one n p set place one is =
      let test : (bit_at counter n == 1) ≡ true = eq-eqb (bit_at counter n) 1 one in
      rw (place, test, is) refl

  -- at any other it stays
  pub derived-zero : (n p : ℕ) → p ≡ suc n → ¬ (bit_at counter n ≡ 1)
      → derived (ones_below p counter) register key ≡ derived (ones_below n counter) register key
  unfolding ones_below
  derived-zero n p place not_one =
      let test : (bit_at counter n == 1) ≡ false = ne_eqb (bit_at counter n) 1 not_one in
      rw (place, test) refl

-- below place 0 there is no bit
pub derived-end : (p counter register : ℕ) (key : List ℕ) → p ≡ 0 → derived (ones_below p counter) register key ≡ key
unfolding ones_below derived
derived-end p counter register key none = rw none refl
