-- C, and then D.
use Rattle.std.proofs.Common.{map, arith, ◌∙◌}
use Rattle.std.proofs.lemmas.List.{length-map}
use Rattle.des_fast.specs.Slices.{bits_of_slice}
use Rattle.des_fast.specs.RoundKeySlices.{positions_twice}
use Rattle.des_fast.proofs.KeySlices.{bits-selection}
use Rattle.des_fast.proofs.slices.keys.spread_halves.Goals as goal

pub returns : goal.returns
returns g c b within =
    let read = g.S.Slice.bit b in
    bits-selection (map read c.spread_half-2.new.halves) (bits_of_slice c.args.words.now) positions_twice
    (length-map c.spread_half-2.new.halves read ∙ c.spread_half-2.ensures.count)
    (λ m below. c.spread_half-2.ensures.spread b within m (omega arith) (omega arith))
