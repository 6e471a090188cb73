-- The largest of some numbers and one more.
use Rattle.std.proofs.Common.{◌≡◌, ℕ, ◌+◌, arith, inl, inr, ap, nat_cmp}
use Rattle.std.specs.Ordering.{ord_max}
use Rattle.std.proofs.lemmas.Bool.{cases_lt}
use Rattle.des_fast.specs.Largest.{IsLargest}

pub IsLargest-more : (count : ℕ) (f : ℕ → ℕ) (largest more next : ℕ) → more ≡ f count
    → next ≡ ord_max nat_cmp largest more → IsLargest count f largest → IsLargest (count + 1) f next
IsLargest-more count f largest more next last made is = record {
  bound = λ k below.
      elim (cases_lt k count) [
        | inl low ↦ grind (arith, made, is.bound k low)
        | inr past ↦ let same : k ≡ count = omega arith in grind (arith, made, last, ap f same)
      ];
  least = λ n each.
      grind (arith, made, last, is.least n (λ k below. each k (omega arith)), each count (omega arith));
}
