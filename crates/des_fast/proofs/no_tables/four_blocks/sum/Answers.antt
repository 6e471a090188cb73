use Rattle.std.proofs.Common.{bit_and, bit_xor}
use Rattle.des_fast.proofs.EachByte.{zipped}
use Rattle.des_fast.proofs.no_tables.four_blocks.sum.Goals as goal

pub returns : goal.returns
returns c n from bytes terms are more =
    zipped bit_xor _ _ bytes c.args.terms _ terms (zipped bit_and _ _ bytes c.args.mask c.args.more are more)
