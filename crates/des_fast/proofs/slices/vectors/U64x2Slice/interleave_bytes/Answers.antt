use Rattle.std.proofs.Common.{refl}
use Rattle.des_fast.specs.declared.slices.vectors.TheConstants.{FIRST_BYTES_OF_16, SECOND_BYTES_OF_16}
use Rattle.des_fast.specs.Transposition.{interleaved}
use Rattle.des_fast.proofs.PlacedBytes.{ArePairwise-shuffled}
use Rattle.des_fast.proofs.slices.vectors.U64x2Slice.interleave_bytes.Goals as goal

pub returns : goal.returns
returns c =
    ArePairwise-shuffled 2 interleaved FIRST_BYTES_OF_16 SECOND_BYTES_OF_16 c.args.self c.args.other refl refl c.fits-self c.fits-other
