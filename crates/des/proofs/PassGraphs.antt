-- Relations whose graph is known for passes, and what they are for a pass turned round and for three, one after
-- another.
use Rattle.std.proofs.Common.{◌≡◌, ℕ, List, refl, sym, ap, ◌∙◌, subst}
use Rattle.des.specs.Blocks.{IsBlock}
use Rattle.des.specs.Relations.{IsTheOne, IsBijection, IsGraphOf, AgreeOnBlocks}
use Rattle.des.specs.Triple.{through}
use Rattle.des.specs.Laws.Passes.{IsPass, Agree}

-- the graph of a pass turned round is that of the pass, read from the second block to the first
pub IsGraphOf-turned : (forth back : List ℕ → List ℕ) (Answers : List ℕ → List ℕ → Type 0) → IsPass forth back
    → IsGraphOf forth Answers → IsGraphOf back (λ y x. Answers x y)
IsGraphOf-turned forth back Answers pass graph = λ y x. (
  λ related.
      let there = (graph x y).0 related in (
        subst IsBlock there.1 (pass.forth_is_block x there.0),
        ap back (sym there.1) ∙ pass.back_forth x there.0,
      ),
  λ made.
      (graph x y).1 (
        subst IsBlock made.1 (pass.back_is_block y made.0),
        ap forth (sym made.1) ∙ pass.forth_back y made.0,
      ),
)

-- a block is answered by what the function answers to it, and by nothing else
pub IsTheOne-graph : (answer : List ℕ → List ℕ) (Answers : List ℕ → List ℕ → Type 0) (block : List ℕ)
    → IsGraphOf answer Answers → IsBlock block → IsTheOne (Answers block) (answer block)
IsTheOne-graph answer Answers block graph is_block = (
  (graph block (answer block)).1 (is_block, refl),
  λ other related. sym ((graph block other).0 related).1,
)

pub IsTheOne-answer : (answer : List ℕ → List ℕ) (Answers : List ℕ → List ℕ → Type 0) (block found : List ℕ)
    → IsGraphOf answer Answers → IsBlock block → found ≡ answer block → IsTheOne (λ other. Answers block other) found
IsTheOne-answer answer Answers block found graph is_block same =
    rw same (IsTheOne-graph answer Answers block graph is_block)

-- two functions that answer blocks as a third one does answer them alike
pub AgreeOnBlocks-Agree : {answer other_answer third : List ℕ → List ℕ} → Agree answer third → Agree other_answer third
    → AgreeOnBlocks answer other_answer
AgreeOnBlocks-Agree first second block is_block = first.at block is_block ∙ sym (second.at block is_block)

-- the graph of a pass has one answer each way
pub IsBijection-graph : (forth back : List ℕ → List ℕ) (Answers : List ℕ → List ℕ → Type 0) → IsPass forth back
    → IsGraphOf forth Answers → IsBijection Answers
IsBijection-graph forth back Answers pass graph = record {
  forwards = λ x is_block. (forth x, IsTheOne-graph forth Answers x graph is_block);
  backwards = λ y is_block.
      (back y, IsTheOne-graph back (λ z x. Answers x z) y (IsGraphOf-turned forth back Answers pass graph) is_block);
}

-- what relates the two ends of three relations: two blocks between
abbrev Joined : (First Second Third : List ℕ → List ℕ → Type 0) → List ℕ → List ℕ → Type 0
Joined First Second Third x y = (u : List ℕ) × ((v : List ℕ) × (First x u × Second u v × Third v y))

-- the graph of three passes is the relations joined
pub IsGraphOf-through : (f1 b1 f2 b2 f3 : List ℕ → List ℕ) (First Second Third : List ℕ → List ℕ → Type 0)
    → IsPass f1 b1 → IsPass f2 b2 → IsGraphOf f1 First → IsGraphOf f2 Second → IsGraphOf f3 Third
    → IsGraphOf (through f1 f2 f3) (Joined First Second Third)
IsGraphOf-through f1 b1 f2 b2 f3 First Second Third p1 p2 g1 g2 g3 = λ x y. (
  λ joined.
      let u = joined.0 in
      let v = joined.1.0 in
      let first = (g1 x u).0 joined.1.1.0 in
      let second = (g2 u v).0 joined.1.1.1 in
      let third = (g3 v y).0 joined.1.1.2 in (
        first.0,
        ap (λ (w : List ℕ). f3 (f2 w)) first.1 ∙ ap f3 second.1 ∙ third.1,
      ),
  λ made.
      let u_block = p1.forth_is_block x made.0 in
      let v_block = p2.forth_is_block (f1 x) u_block in (
        f1 x,
        (
          f2 (f1 x),
          (
            (g1 x (f1 x)).1 (made.0, refl),
            (g2 (f1 x) (f2 (f1 x))).1 (u_block, refl),
            (g3 (f2 (f1 x)) y).1 (v_block, made.1),
          ),
        ),
      ),
)

-- if a fact holds, the relation with the fact beside it is as the relation is
module _ (Fact : Type 0) (fact : Fact) where
  pub IsGraphOf-beside : (answer : List ℕ → List ℕ) (Answers : List ℕ → List ℕ → Type 0) → IsGraphOf answer Answers
      → IsGraphOf answer (λ x y. Fact × Answers x y)
  IsGraphOf-beside answer Answers graph =
      λ x y. (λ related. (graph x y).0 related.1, λ made. (fact, (graph x y).1 made))

  pub IsTheOne-beside : (P : List ℕ → Type 0) (block : List ℕ) → IsTheOne P block
      → IsTheOne (λ other. Fact × P other) block
  IsTheOne-beside P block one = ((fact, one.0), λ other related. one.1 other related.1)
