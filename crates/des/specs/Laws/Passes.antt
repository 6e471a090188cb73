-- Passes: two functions on blocks that undo each other. A pass turned round is a pass, and so are
-- three, one after another.
use Rattle.std.proofs.Common.{◌≡◌, ℕ, List, sym, ap, ◌∙◌}
use Rattle.des.specs.Blocks.{IsBlock}
use Rattle.des.specs.Relations.{IsGraphOf}
use Rattle.des.specs.Triple.{through}

-- the two functions take blocks to blocks, and each undoes the other
pub record IsPass (forth back : List ℕ → List ℕ) : Type 0 where
  pub forth_is_block : (block : List ℕ) → IsBlock block → IsBlock (forth block)
  pub back_is_block : (block : List ℕ) → IsBlock block → IsBlock (back block)
  pub back_forth : (block : List ℕ) → IsBlock block → back (forth block) ≡ block
  pub forth_back : (block : List ℕ) → IsBlock block → forth (back block) ≡ block

-- a pass turned round
pub IsPass-turned : {forth back : List ℕ → List ℕ} → IsPass forth back → IsPass back forth
IsPass-turned pass = record {
  forth_is_block = pass.back_is_block;
  back_is_block = pass.forth_is_block;
  back_forth = pass.forth_back;
  forth_back = pass.back_forth;
}

-- three passes, one after another
pub IsPass-through : {f1 b1 f2 b2 f3 b3 : List ℕ → List ℕ} → IsPass f1 b1 → IsPass f2 b2
    → IsPass f3 b3
    → IsPass (through f1 f2 f3) (through b3 b2 b1)
IsPass-through {f1} {b1} {f2} {b2} {f3} {b3} p1 p2 p3 = record {
  forth_is_block =
      λ x is_block. p3.forth_is_block _ (p2.forth_is_block _ (p1.forth_is_block x is_block));
  back_is_block =
      λ y is_block. p1.back_is_block _ (p2.back_is_block _ (p3.back_is_block y is_block));
  back_forth = λ x is_block.
      let u_block = p1.forth_is_block x is_block in
      ap (λ (v : List ℕ). b1 (b2 v)) (p3.back_forth _ (p2.forth_is_block _ u_block))
      ∙ ap b1 (p2.back_forth _ u_block)
      ∙ p1.back_forth x is_block;
  forth_back = λ y is_block.
      let v_block = p3.back_is_block y is_block in
      ap (λ (u : List ℕ). f3 (f2 u)) (p1.forth_back _ (p2.back_is_block _ v_block))
      ∙ ap f3 (p2.forth_back _ v_block)
      ∙ p3.forth_back y is_block;
}

-- two functions answer blocks alike
pub record Agree (f g : List ℕ → List ℕ) : Type 0 where
  pub at : (block : List ℕ) → IsBlock block → f block ≡ g block

-- so the graph of one is that of the other
pub IsGraphOf-alike : {f g : List ℕ → List ℕ} (Answers : List ℕ → List ℕ → Type 0) → Agree f g
    → IsGraphOf g Answers → IsGraphOf f Answers
IsGraphOf-alike Answers alike graph = λ x y. (
  λ related.
      let taken = (graph x y).0 related in (taken.0, alike.at x taken.0 ∙ taken.1),
  λ taken. (graph x y).1 (taken.0, sym (alike.at x taken.0) ∙ taken.1),
)

-- functions that agree do so one after another
pub Agree-through : {f1 b1 f2 b2 f3 g1 g2 g3 : List ℕ → List ℕ} → IsPass f1 b1 → IsPass f2 b2
    → Agree f1 g1 → Agree f2 g2 → Agree f3 g3
    → Agree (through f1 f2 f3) (through g1 g2 g3)
Agree-through {f1} {b1} {f2} {b2} {f3} {g1} {g2} {g3} p1 p2 a1 a2 a3 = record {
  at = λ x is_block.
      let u_block = p1.forth_is_block x is_block in
      a3.at (f2 (f1 x)) (p2.forth_is_block (f1 x) u_block)
      ∙ ap g3 (a2.at (f1 x) u_block)
      ∙ ap (λ (u : List ℕ). g3 (g2 u)) (a1.at x is_block);
}
