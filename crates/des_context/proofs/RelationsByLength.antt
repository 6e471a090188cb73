-- What the relation of a key says, its relation by its length says too.
use Rattle.std.proofs.Common.{ℕ, List, [], ◌∷◌}
use Rattle.std.specs.Prelude.{◌↔◌}
use Rattle.des.specs.Blocks.{AnswersEach}
use Rattle.des.specs.Relations.{IsGraphOf}
use Rattle.des_context.specs.CipherTypes.{relation_of}
use Rattle.des_context.specs.CipherTypeLaws.{RelatesByLength}

module _ (P Q : List ℕ → List ℕ → Type 0) (same : (x y : List ℕ) → P x y ↔ Q x y) where
  pub AnswersEach-same : (blocks others : List (List ℕ)) → AnswersEach P blocks others ↔ AnswersEach Q blocks others
  AnswersEach-same [] [] = (λ each. tt, λ each. tt)
  AnswersEach-same [] (other ∷ others) = (λ each. absurd each, λ each. absurd each)
  AnswersEach-same (block ∷ blocks) [] = (λ each. absurd each, λ each. absurd each)
  AnswersEach-same (block ∷ blocks) (other ∷ others) =
      let one = same block other in
      let more = AnswersEach-same blocks others in
      (λ each. (one.0 each.0, more.0 each.1), λ each. (one.1 each.0, more.1 each.1))

pub IsGraphOf-by_length : {size : ℕ} {encryption : List ℕ → List ℕ → List ℕ}
    {relation : List ℕ → List ℕ → List ℕ → Type 0} {key : List ℕ} → RelatesByLength size encryption relation key
    → (f : List ℕ → List ℕ) → IsGraphOf f (relation key) → IsGraphOf f (relation_of key)
IsGraphOf-by_length by f graph x y =
    (λ related. (graph x y).0 ((by.relates x y).1 related), λ takes. (by.relates x y).0 ((graph x y).1 takes))
