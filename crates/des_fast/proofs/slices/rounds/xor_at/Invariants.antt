use Rattle.std.proofs.Common.{◌≡◌, take, map, length}
use Rattle.des_fast.specs.Slices.{xor_at}
use Rattle.des_fast.specs.Slices.{InEachBlock}
use Rattle.des_fast.proofs.slices.rounds.xor_at.Given as goal

abbrev pub invariant-loop-i : goal.invariant-loop-i
invariant-loop-i g l =
    (length l.half ≡ 32)
    × InEachBlock g.S.Slice.BATCH (λ b. map (g.S.Slice.bit b) l.half
    ≡ xor_at (map (g.S.Slice.bit b) l.initial.half) (take l.i l.indexes) (take l.i (map (g.S.Slice.bit b) l.changes)))
