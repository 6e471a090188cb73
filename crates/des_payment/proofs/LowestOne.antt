-- The lowest one bit of a counter.
use Rattle.std.proofs.Common.{◌≡◌, ℕ, zero, suc, ◌%◌, ◌^◌, ◌<◌, inl, inr, arith}
use Rattle.std.specs.Int.{w64, bit_at, trailing_zeros}
use Rattle.std.proofs.Math.Nat.{mod-one}
use Rattle.std.proofs.lemmas.Nat.Bits.{bit_at-trailing_zeros, bit_at_above}
use Rattle.std.proofs.lemmas.Bool.{cases_lt}
use Rattle.des_payment.proofs.PlaceNumbers.{one_more}

-- if no bit below a place is one, there are zeros
none_below : (n p : ℕ) → ((i : ℕ) → i < p → bit_at n i ≡ 0) → n % 2 ^ p ≡ 0
none_below n zero none = mod-one n
none_below n (suc p) none =
    one_more n p (none_below n p (λ i low. none i (omega arith))) (none p (omega arith))

module _ (n : ℕ) (some : 0 < n) (fits : n < 2 ^ 64) where
  pub lowest-one : bit_at n (trailing_zeros w64 n) ≡ 1
  lowest-one = (bit_at-trailing_zeros w64 n some fits).1

  pub lowest-below : n % 2 ^ trailing_zeros w64 n ≡ 0
  lowest-below = none_below n (trailing_zeros w64 n) (bit_at-trailing_zeros w64 n some fits).2

  pub lowest-inside : (k : ℕ) → n < 2 ^ k → trailing_zeros w64 n < k
  lowest-inside k small =
      elim (cases_lt (trailing_zeros w64 n) k) [
        | inl less ↦ less
        | inr more ↦ absurd (omega (arith, lowest-one, bit_at_above n k (trailing_zeros w64 n) small more))
      ]
