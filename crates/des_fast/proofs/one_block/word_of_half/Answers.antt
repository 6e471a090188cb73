use Rattle.std.proofs.Common.{arith}
use Rattle.des_fast.proofs.HalfMaps.{bits_of-middle_bits}
use Rattle.des_fast.proofs.one_block.word_of_half.Goals as goal

pub returns-clause-half : goal.returns-clause-half
returns-clause-half c = bits_of-middle_bits c.args.groups (omega arith)
