-- The slices below i are selected.
use Rattle.std.proofs.Common.{◌≡◌, ◌++◌, ℕ, ◌<◌, false, map, get_or, length}
use Rattle.des.specs.Bits.{bit}
use Rattle.des_fast.specs.Slices.{InEachBlock}
use Rattle.des_fast.proofs.slices.selection.write_selection.Given as goal

abbrev pub invariant-loop-i : goal.invariant-loop-i
invariant-loop-i g l =
    (length l.selected ≡ length l.positions)
    × ((j : ℕ) → j < l.i → InEachBlock g.S.Slice.BATCH
    (λ b. get_or (map (g.S.Slice.bit b) l.selected) j false
    ≡ bit (map (g.S.Slice.bit b) l.left ++ map (g.S.Slice.bit b) l.right) (get_or l.positions j 0)))
