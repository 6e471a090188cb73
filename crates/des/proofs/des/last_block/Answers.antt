use Rattle.std.proofs.Common.{ap, sym, ◌∙◌, arith}
use Rattle.des.specs.Bits.{bits_of_bytes, bits_of_word, select}
use Rattle.des.specs.Tables.{final_permutation}
use Rattle.des.specs.Laws.BitLists.{length-bits_of, bits_of_bytes-to_be}
use Rattle.des.specs.Laws.Selections.{select-final_permutation}
use Rattle.des.proofs.HalfWords.{bits_of_word-rotate_left}
use Rattle.des.proofs.des.last_block.Goals as goal

pub returns-clause-bits : goal.returns-clause-bits
returns-clause-bits c =
    ap bits_of_bytes c.to_be_bytes.ensures
    ∙ bits_of_bytes-to_be c.fp.result
    ∙ sym (select-final_permutation (bits_of_word c.fp.result) (length-bits_of 64 c.fp.result))
    ∙ ap (select final_permutation)
    (c.fp.ensures.selected ∙ ap bits_of_word c.rotate_left.ensures
    ∙ bits_of_word-rotate_left c.args.halves (omega arith))
