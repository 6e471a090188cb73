-- What tests of blocks tell, if a relation gives the blocks.
use Rattle.std.proofs.Common.{◌≡◌, ◌↔◌, ℕ, List, IsTrue, Bool, sym, subst, ◌∙◌}
use Rattle.des.specs.Blocks.{IsBlock}
use Rattle.des.specs.Relations.{IsTheOne, IsBijection, IsGraphOf}

-- whether a function makes this of a block tells whether the relation, which is its graph, takes the block to it
pub related : {same : Bool} (function : List ℕ → List ℕ) (Relates : List ℕ → List ℕ → Type 0)
    (block made result : List ℕ)
    → IsGraphOf function Relates → IsBlock block → made ≡ function block
    → IsTrue same ↔ (made ≡ result) → IsTrue same ↔ Relates block result
related function Relates block made result graph is_block by told = (
  λ yes. (graph block result).1 (is_block, sym by ∙ told.0 yes),
  λ taken. told.1 (by ∙ ((graph block result).0 taken).1),
)

-- if a relation takes one block to each, whether two blocks are taken to one tells whether they are one
pub one_block : {same : Bool} (Relates : List ℕ → List ℕ → Type 0)
    (block other result other_result : List ℕ)
    → IsBijection Relates → IsBlock result
    → IsTheOne (Relates block) result → IsTheOne (Relates other) other_result
    → IsTrue same ↔ (result ≡ other_result) → IsTrue same ↔ (block ≡ other)
one_block Relates block other result other_result one is_block this that told =
    let there = one.backwards result is_block in (
      λ yes. there.1.1 block this.0 ∙ sym (there.1.1 other (subst (Relates other) (sym (told.0 yes)) that.0)),
      λ same. told.1 (that.1 result (subst (λ x. Relates x result) same this.0)),
    )
