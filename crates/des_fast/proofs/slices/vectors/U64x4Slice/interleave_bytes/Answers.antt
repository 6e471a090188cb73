use Rattle.std.proofs.Common.{refl}
use Rattle.des_fast.specs.declared.slices.vectors.TheConstants.{FIRST_BYTES_OF_32, SECOND_BYTES_OF_32}
use Rattle.des_fast.specs.Transposition.{interleaved}
use Rattle.des_fast.proofs.PlacedBytes.{ArePairwise-shuffled}
use Rattle.des_fast.proofs.slices.vectors.U64x4Slice.interleave_bytes.Goals as goal

pub returns : goal.returns
returns c =
    ArePairwise-shuffled 4 interleaved FIRST_BYTES_OF_32 SECOND_BYTES_OF_32 c.args.self c.args.other refl refl c.fits-self c.fits-other
