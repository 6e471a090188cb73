use Rattle.std.proofs.Common.{refl}
use Rattle.des_fast.specs.declared.slices.vectors.TheConstants.{FIRST_WORDS_OF_32, SECOND_WORDS_OF_32}
use Rattle.des_fast.specs.Transposition.{joined}
use Rattle.des_fast.proofs.PlacedBytes.{ArePairwise-shuffled}
use Rattle.des_fast.proofs.slices.vectors.U64x4Slice.join_words.Goals as goal

pub returns : goal.returns
returns c =
    ArePairwise-shuffled 4 joined FIRST_WORDS_OF_32 SECOND_WORDS_OF_32 c.args.self c.args.other refl refl c.fits-self c.fits-other
