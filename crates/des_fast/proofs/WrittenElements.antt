-- Lists written element by element.
use Rattle.std.proofs.Common.{◌≡◌, ℕ, ◌+◌, ◌<◌, Bool, false, List, length, map, get_or, sym, arith, inl, inr, subst}
use Rattle.std.proofs.Math.ListN.{set}
use Rattle.std.proofs.lemmas.List.{get_or-set_same, get_or-set_other, length-map, map-set}
use Rattle.std.proofs.lemmas.Bool.{cases_eq}

-- what holds of the elements below i holds below i + 1 of the list with the element at i written
pub written_below : {X : Type 0} (P : ℕ → X → Type 0) (xs : List X) (i : ℕ) (x d : X) → i < length xs
    → ((g : ℕ) → g < i → P g (get_or xs g d)) → P i x → (g : ℕ) → g < i + 1 → P g (get_or (set xs i x) g d)
written_below P xs i x d inside each here g below =
    elim (cases_eq g i) [
      | inl same ↦
          let at : get_or (set xs i x) i d ≡ x = get_or-set_same xs i x d inside in
          subst (λ (k : ℕ). P k (get_or (set xs i x) k d)) (sym same) (subst (P i) (sym at) here)
      | inr other ↦
          let low : g < i = omega arith in
          subst (P g) (sym (get_or-set_other xs i g x d other)) (each g low)
    ]

-- the same of the bits of elements
pub bits_written_below : {X : Type 0} (bit : X → Bool) (P : ℕ → Bool → Type 0) (xs : List X) (i : ℕ) (x : X)
    → i < length xs → ((g : ℕ) → g < i → P g (get_or (map bit xs) g false)) → P i (bit x)
    → (g : ℕ) → g < i + 1 → P g (get_or (map bit (set xs i x)) g false)
bits_written_below bit P xs i x inside each here g below =
    let in_bits : i < length (map bit xs) = rw (length-map xs bit) inside in
    subst (λ (bits : List Bool). P g (get_or bits g false)) (sym (map-set bit xs i x))
    (written_below P (map bit xs) i (bit x) false in_bits each here g below)
