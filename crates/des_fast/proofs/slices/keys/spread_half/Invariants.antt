-- Of the 56 bits those below the next one stand at their two places.
use Rattle.std.proofs.Common.{◌≡◌, ◌+◌, ◌*◌, length}
use Rattle.des_fast.specs.RoundKeySlices.{StandTwiceBelow}
use Rattle.des_fast.proofs.slices.keys.spread_half.Given as goal

abbrev pub invariant-rows : goal.invariant-rows
invariant-rows g l =
    (length l.halves ≡ 112)
    × StandTwiceBelow g.S.Slice.BATCH g.S.Slice.bit l.words (28 * l.half + 7 * l.row) l.halves

abbrev pub invariant-bits : goal.invariant-bits
invariant-bits g l =
    (length l.halves ≡ 112)
    × StandTwiceBelow g.S.Slice.BATCH g.S.Slice.bit l.words (28 * l.half + 7 * l.row + l.i) l.halves
