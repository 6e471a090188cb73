use Rattle.std.proofs.Common.{arith, bit_xor, refl}
use Rattle.des.specs.Bits.{xor}
use Rattle.des_fast.specs.Slices.{place_of_block}
use Rattle.des_fast.proofs.SliceBits.{IsBitwise-xor, HasBit-bitwise}
use Rattle.des_fast.proofs.slices.vectors.U64x2Slice.xor.Goals as goal

pub returns : goal.returns
returns c b within =
    (HasBit-bitwise bit_xor xor IsBitwise-xor 2 (place_of_block 2 b) c.args.self c.args.other _ _ (omega arith) (c.fits-self, refl)
    (c.fits-other, refl)).1
