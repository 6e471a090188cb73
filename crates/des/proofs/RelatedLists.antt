-- Lists of blocks that a function answers block by block, and the relation whose graph it is.
use Rattle.std.proofs.Common.{◌≡◌, ℕ, List, [], ◌∷◌, map, refl, sym, ◌∙◌, ap}
use Rattle.std.specs.List.{All}
use Rattle.std.proofs.lemmas.List.Elements.{All-head, All-tail}
use Rattle.des.specs.Blocks.{IsBlock, AnswersEach}
use Rattle.des.specs.Relations.{IsTheOne, IsGraphOf}

module _ (f : List ℕ → List ℕ) (Answers : List ℕ → List ℕ → Type 0) (graph : IsGraphOf f Answers) where
  -- the function answers each block by the relation
  AnswersEach-graph : (blocks : List (List ℕ)) → All IsBlock blocks → AnswersEach Answers blocks (map f blocks)
  AnswersEach-graph [] are_blocks = tt
  AnswersEach-graph (block ∷ blocks) are_blocks = (
    (graph block (f block)).1 (All-head IsBlock block blocks are_blocks, refl),
    AnswersEach-graph blocks (All-tail IsBlock block blocks are_blocks),
  )

  -- and nothing else does
  map-from_AnswersEach : (blocks answers : List (List ℕ)) → AnswersEach Answers blocks answers → answers ≡ map f blocks
  map-from_AnswersEach [] [] each = refl
  map-from_AnswersEach [] (answer ∷ answers) each = absurd each
  map-from_AnswersEach (block ∷ blocks) [] each = absurd each
  map-from_AnswersEach (block ∷ blocks) (answer ∷ answers) each =
      ap (λ (first : List ℕ). first ∷ answers) (sym ((graph block answer).0 each.0).1)
      ∙ ap (λ (rest : List (List ℕ)). f block ∷ rest) (map-from_AnswersEach blocks answers each.1)

  -- so what it answers to a list is the one list
  pub IsTheOne-map : (blocks : List (List ℕ)) → All IsBlock blocks
      → IsTheOne (λ answers. AnswersEach Answers blocks answers) (map f blocks)
  IsTheOne-map blocks are_blocks = (
    AnswersEach-graph blocks are_blocks,
    λ other related. map-from_AnswersEach blocks other related,
  )

-- lists related block by block, read from the second to the first
AnswersEach-turned : (Answers : List ℕ → List ℕ → Type 0) (blocks answers : List (List ℕ))
    → AnswersEach Answers blocks answers → AnswersEach (λ answer block. Answers block answer) answers blocks
AnswersEach-turned Answers [] [] each = tt
AnswersEach-turned Answers [] (answer ∷ answers) each = absurd each
AnswersEach-turned Answers (block ∷ blocks) [] each = absurd each
AnswersEach-turned Answers (block ∷ blocks) (answer ∷ answers) each =
    (each.0, AnswersEach-turned Answers blocks answers each.1)

-- the same if the function undoes: it answers a list with the one list to which the list is the answer
pub IsTheOne-map_turned : (f : List ℕ → List ℕ) (Answers : List ℕ → List ℕ → Type 0)
    → IsGraphOf f (λ answer block. Answers block answer)
    → (answers : List (List ℕ)) → All IsBlock answers
    → IsTheOne (λ blocks. AnswersEach Answers blocks answers) (map f answers)
IsTheOne-map_turned f Answers graph answers are_blocks =
    let one = IsTheOne-map f (λ answer block. Answers block answer) graph answers are_blocks in (
      AnswersEach-turned (λ answer block. Answers block answer) answers (map f answers) one.0,
      λ other related. one.1 other (AnswersEach-turned Answers other answers related),
    )
