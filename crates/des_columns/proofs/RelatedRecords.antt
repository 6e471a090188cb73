-- Blocks that are related each by itself: so are those of records.
use Rattle.std.proofs.Common.{ℕ, zero, suc, List, [], ◌∷◌, take, drop, get_or, sum}
use Rattle.des.specs.Blocks.{AnswersEach}
use Rattle.des_fast.specs.Records.{record_of}

module _ (Relates : List ℕ → List ℕ → Type 0) where
  each-take : (n : ℕ) (p q : List (List ℕ)) → AnswersEach Relates p q → AnswersEach Relates (take n p) (take n q)
  each-take zero p q each = tt
  each-take (suc n) [] [] each = tt
  each-take (suc n) [] (y ∷ q) each = absurd each
  each-take (suc n) (x ∷ p) [] each = absurd each
  each-take (suc n) (x ∷ p) (y ∷ q) each = (each.0, each-take n p q each.1)

  each-drop : (n : ℕ) (p q : List (List ℕ)) → AnswersEach Relates p q → AnswersEach Relates (drop n p) (drop n q)
  each-drop zero p q each = each
  each-drop (suc n) [] [] each = tt
  each-drop (suc n) [] (y ∷ q) each = absurd each
  each-drop (suc n) (x ∷ p) [] each = absurd each
  each-drop (suc n) (x ∷ p) (y ∷ q) each = each-drop n p q each.1

  -- those of records
  pub each-record : (sizes : List ℕ) (p q : List (List ℕ)) (k : ℕ) → AnswersEach Relates p q
      → AnswersEach Relates (record_of sizes p k) (record_of sizes q k)
  each-record sizes p q k each =
      let start : ℕ = sum (take k sizes) in
      each-take (get_or sizes k 0) (drop start p) (drop start q) (each-drop start p q each)
