-- Functions on blocks of which one answers complemented blocks with the complements of what the
-- other answers: turned round, and three of them, one after another.
use Rattle.std.proofs.Common.{◌≡◌, ℕ, List, sym, ap, ◌∙◌}
use Rattle.des.specs.Blocks.{IsBlock}
use Rattle.des.specs.Complement.{complement}
use Rattle.des.specs.Triple.{through}
use Rattle.des.specs.Laws.ComplementBits.{IsKey-complement}
use Rattle.des.specs.Laws.Passes.{IsPass}

-- g answers the complement of a block with the complement of what f answers to the block
pub record Complements (f g : List ℕ → List ℕ) : Type 0 where
  pub at : (block : List ℕ) → IsBlock block → g (complement block) ≡ complement (f block)

-- so do the functions that undo them
pub Complements-turned : {f f_back g g_back : List ℕ → List ℕ} → IsPass f f_back → IsPass g g_back
    → Complements f g
    → Complements f_back g_back
Complements-turned {f} {f_back} {g} {g_back} f_pass g_pass complements = record {
  at = λ y is_block.
      let x : List ℕ = f_back y in
      let x_block : IsBlock x = f_pass.back_is_block y is_block in
      let there : g (complement x) ≡ complement y =
      complements.at x x_block ∙ ap complement (f_pass.forth_back y is_block) in
      ap g_back (sym there) ∙ g_pass.back_forth (complement x) (IsKey-complement 8 x x_block);
}

-- and three, one after another
pub Complements-through : {f1 b1 f2 b2 f3 g1 g2 g3 : List ℕ → List ℕ} → IsPass f1 b1 → IsPass f2 b2
    → Complements f1 g1 → Complements f2 g2
    → Complements f3 g3 → Complements (through f1 f2 f3) (through g1 g2 g3)
Complements-through {f1} {b1} {f2} {b2} {f3} {g1} {g2} {g3} p1 p2 c1 c2 c3 = record {
  at = λ x is_block.
      let u_block = p1.forth_is_block x is_block in
      ap (λ (u : List ℕ). g3 (g2 u)) (c1.at x is_block)
      ∙ ap g3 (c2.at (f1 x) u_block)
      ∙ c3.at (f2 (f1 x)) (p2.forth_is_block (f1 x) u_block);
}
