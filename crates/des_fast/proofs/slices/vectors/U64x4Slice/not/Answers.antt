use Rattle.std.proofs.Common.{arith, refl}
use Rattle.des_fast.specs.Slices.{place_of_block}
use Rattle.des_fast.proofs.SliceBits.{HasBit-not}
use Rattle.des_fast.proofs.slices.vectors.U64x4Slice.not.Goals as goal

pub returns : goal.returns
returns c b within =
    (HasBit-not 4 (place_of_block 4 b) c.args.self _ (omega arith) (c.fits-self, refl)).1
