use Rattle.std.proofs.Common.{ap, sym, ◌∙◌, arith}
use Rattle.des.specs.Bits.{bits_of_word}
use Rattle.des.specs.Laws.BitLists.{bits_of_bytes-from_be}
use Rattle.des_fast.proofs.halves.word_of.Goals as goal

pub returns-clause-bits : goal.returns-clause-bits
returns-clause-bits c =
    ap bits_of_word c.from_be_bytes.ensures ∙ sym (bits_of_bytes-from_be c.args.block.now (omega arith) c.fits-block)
