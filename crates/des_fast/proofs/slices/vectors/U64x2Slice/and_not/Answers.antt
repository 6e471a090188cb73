use Rattle.std.proofs.Common.{arith, bit_and, ◌&&◌, refl}
use Rattle.des_fast.specs.Slices.{place_of_block}
use Rattle.des_fast.proofs.SliceBits.{IsBitwise-and, HasBit-bitwise, HasBit-not}
use Rattle.des_fast.proofs.slices.vectors.U64x2Slice.and_not.Goals as goal

pub returns : goal.returns
returns c b within =
    (HasBit-bitwise bit_and ◌&&◌ IsBitwise-and 2 (place_of_block 2 b) c.args.self _ _ _ (omega arith) (c.fits-self, refl)
    (HasBit-not 2 (place_of_block 2 b) c.args.other _ (omega arith) (c.fits-other, refl))).1
