use Rattle.std.proofs.Common.{arith, bit_or, ◌||◌, refl}
use Rattle.des_fast.specs.Slices.{place_of_block}
use Rattle.des_fast.proofs.SliceBits.{IsBitwise-or, HasBit-bitwise}
use Rattle.des_fast.proofs.slices.vectors.U64x4Slice.or.Goals as goal

pub returns : goal.returns
returns c b within =
    (HasBit-bitwise bit_or ◌||◌ IsBitwise-or 4 (place_of_block 4 b) c.args.self c.args.other _ _ (omega arith) (c.fits-self, refl)
    (c.fits-other, refl)).1
