use Rattle.std.proofs.Common.{[], get_or, map, arith}
use Rattle.std.proofs.lemmas.List.{length-map}
use Rattle.des_fast.specs.RoundKeySlices.{round_keys_in}
use Rattle.des_fast.proofs.SpreadParts.{all_spread}
use Rattle.des_fast.proofs.many.lanes.spread_parts.Goals as goal

pub returns : goal.returns
returns g c k below =
    all_spread (round_keys_in (g.S.Slice.bit k)) c.passes.passes c.args.parts.now (get_or (map g.K.KeyBytes.bytes_of c.args.keys.now) k [])
    c.passes.i c.passes.invariant.count (omega arith)
    (λ m low. c.passes.invariant.spread m low k
    (omega (arith, below, length-map c.args.keys.now g.K.KeyBytes.bytes_of)))
