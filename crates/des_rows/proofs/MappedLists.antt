-- Lists of what a function makes of each block, and another one that brings the blocks back.
use Rattle.std.proofs.Common.{◌≡◌, ℕ, List, [], ◌∷◌, map, refl, ◌∙◌, Result, Ok, Err, OnOk}
use Rattle.std.specs.List.{All}
use Rattle.std.proofs.lemmas.Simd.{map-map}
use Rattle.std.proofs.lemmas.List.Folds.{map_fixed}
use Rattle.des.specs.Blocks.{IsBlock, AnswersEach}

-- the list of what a function makes of each block
pub AnswersEach-map : (f : List ℕ → List ℕ) (blocks : List (List ℕ))
    → AnswersEach (λ block result. result ≡ f block) blocks (map f blocks)
AnswersEach-map f [] = tt
AnswersEach-map f (block ∷ blocks) = (refl, AnswersEach-map f blocks)

-- a function that undoes another on blocks brings back a list of blocks
pub map-undone : (f g : List ℕ → List ℕ) (blocks : List (List ℕ))
    → ((block : List ℕ) → IsBlock block → g (f block) ≡ block)
    → All IsBlock blocks → map g (map f blocks) ≡ blocks
map-undone f g blocks undoes are_blocks =
    map-map g f blocks ∙ map_fixed (λ block. g (f block)) blocks (λ i d within. undoes _ (are_blocks i d within))

-- what follows if a call succeeds
pub OnOk-more : {T E P Q : Type 0} (r : Result T E) → (P → Q) → OnOk r P → OnOk r Q
OnOk-more (Ok x) more holds = more holds
OnOk-more (Err e) more holds = tt
