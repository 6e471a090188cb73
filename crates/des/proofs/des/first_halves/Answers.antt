use Rattle.std.proofs.Common.{ℕ, ap, sym, ◌∙◌, arith}
use Rattle.des.specs.Bits.{bits_of_word, select}
use Rattle.des.specs.Tables.{initial_permutation}
use Rattle.des.specs.Laws.BitLists.{bits_of_bytes-from_be}
use Rattle.des.proofs.des.first_halves.Goals as goal

pub returns : goal.returns
returns c =
    c.ip.ensures.selected
    ∙ ap (λ (word : ℕ). select initial_permutation (bits_of_word word)) c.from_be_bytes.ensures
    ∙ ap (select initial_permutation) (sym (bits_of_bytes-from_be c.args.block.now (omega arith) c.fits-block))
