use Rattle.std.proofs.Common.{◌≡◌, ◌*◌, map, take}
use Rattle.des.specs.Rounds.{after_rounds}
use Rattle.des_fast.specs.Slices.{InEachBlock}
use Rattle.des_fast.specs.RoundKeySlices.{round_keys_in}
use Rattle.des_fast.proofs.slices.passes.sixteen_rounds.Given as goal

abbrev pub invariant-pairs : goal.invariant-pairs
invariant-pairs g l =
    InEachBlock g.S.Slice.BATCH (λ b. let read = map (g.S.Slice.bit b) in
    after_rounds (take (2 * l.i) (round_keys_in (g.S.Slice.bit b) l.pass)) (read l.initial.left) (read l.initial.right)
    ≡ (read l.left, read l.right))
