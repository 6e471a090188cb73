use Rattle.std.proofs.Common.{◌-◌, arith}
use Rattle.des.proofs.Rotation.{or_shifts-lt, bits_of-or_shifts}
use Rattle.des.proofs.utils.rotate.Goals as goal

pub returns-clause-half : goal.returns-clause-half
returns-clause-half c =
    or_shifts-lt c.args.shift (28 - c.args.shift) 28 64 c.args.half (omega arith) c.requires.half

pub returns-clause-rotated : goal.returns-clause-rotated
returns-clause-rotated c =
    bits_of-or_shifts c.args.shift (28 - c.args.shift) 28 64 c.args.half (omega arith) (omega arith) c.requires.half
