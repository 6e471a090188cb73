use Rattle.std.proofs.Common.{arith}
use Rattle.des_modes.proofs.CfbPlaces.{IsAtSegment-within}
use Rattle.des_modes.proofs.cfb.CfbMode.advance.Goals as goal

pub returns-clause-after : goal.returns-clause-after
returns-clause-after c encryption iv d is made =
    IsAtSegment-within is (omega arith) c.args.self.now.some c.args.bytes.now made c.shift.ensures c.within_segment-place.ensures.place
    c.within_segment-place.ensures.inside
