use Rattle.std.proofs.Common.{ℕ, ◌++◌, ap, ap₂, sym, ◌∙◌}
use Rattle.des.specs.Bits.{bits_of_word, select}
use Rattle.des.specs.Tables.{final_permutation}
use Rattle.des.specs.Blocks.{block_of_bits}
use Rattle.des.specs.Laws.BitLists.{length-bits_of}
use Rattle.des.specs.Laws.Selections.{select-final_permutation}
use Rattle.des.proofs.BitParts.{bits_of-or_shl}
use Rattle.des_fast.proofs.one_block.block_of_halves.Goals as goal

pub returns : goal.returns
returns c =
    let word : ℕ = c.fp.result in
    c.block_of.ensures
    ∙ ap block_of_bits
    (sym (select-final_permutation (bits_of_word word) (length-bits_of 64 word))
    ∙ ap (select final_permutation)
    (c.fp.ensures.selected
    ∙ bits_of-or_shl 32 32 c.word_of_half.result c.word_of_half-2.result c.word_of_half-2.ensures.within
    ∙ ap₂ ◌++◌ c.word_of_half.ensures.half c.word_of_half-2.ensures.half))
