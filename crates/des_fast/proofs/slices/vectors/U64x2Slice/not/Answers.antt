use Rattle.std.proofs.Common.{arith, refl}
use Rattle.des_fast.specs.Slices.{place_of_block}
use Rattle.des_fast.proofs.SliceBits.{HasBit-not}
use Rattle.des_fast.proofs.slices.vectors.U64x2Slice.not.Goals as goal

pub returns : goal.returns
returns c b within =
    (HasBit-not 2 (place_of_block 2 b) c.args.self _ (omega arith) (c.fits-self, refl)).1
