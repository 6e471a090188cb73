-- The first rows are written.
use Rattle.std.proofs.Common.{map}
use Rattle.des_fast.specs.Slices.{InEachBlock}
use Rattle.des_fast.specs.Transposition.{bits_of_halves}
use Rattle.des_fast.proofs.EightRows.{AreWrittenAt, beside_place}
use Rattle.des_fast.proofs.slices.transposition.write_eight.Given as goal

abbrev pub invariant-loop-j : goal.invariant-loop-j
invariant-loop-j g l =
    InEachBlock g.S.Slice.BATCH (λ b. let read = g.S.Slice.place_bit b in
    AreWrittenAt (beside_place l.i) (map read l.eight) (bits_of_halves read l.initial.left l.initial.right)
    (bits_of_halves read l.left l.right) l.j)
