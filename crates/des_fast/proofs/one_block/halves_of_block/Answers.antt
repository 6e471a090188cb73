use Rattle.std.proofs.Common.{◌≡◌, List, Bool, take, drop, ap, ap₂, sym, ◌∙◌, arith}
use Rattle.des.specs.Bits.{bits_of_bytes, bits_of_word, select}
use Rattle.des.specs.Laws.BitLists.{bits_of_bytes-from_be}
use Rattle.des.specs.Tables.{initial_permutation}
use Rattle.des_fast.proofs.HalfMaps.{IsExpansionOf-left_groups, IsExpansionOf-right_groups}
use Rattle.des_fast.proofs.one_block.halves_of_block.Goals as goal

pub returns-clause-left : goal.returns-clause-left
returns-clause-left c = (IsExpansionOf-left_groups c.ip-word.result (omega arith)).is_expansion

pub returns-clause-right : goal.returns-clause-right
returns-clause-right c = (IsExpansionOf-right_groups c.ip-word.result (omega arith)).is_expansion

-- the word is that of the block, permuted
pub returns-clause-halves : goal.returns-clause-halves
returns-clause-halves c =
    let permuted : bits_of_word c.ip-word.result ≡ select initial_permutation (bits_of_bytes c.args.block.now) =
    c.ip-word.ensures.selected ∙ ap (select initial_permutation)
    (ap bits_of_word c.from_be_bytes.ensures ∙ sym (bits_of_bytes-from_be c.args.block.now (omega arith) c.fits-block)) in
    ap₂ (λ (l r : List Bool). (l, r))
    ((IsExpansionOf-left_groups c.ip-word.result (omega arith)).has_half ∙ ap (take 32) permuted)
    ((IsExpansionOf-right_groups c.ip-word.result (omega arith)).has_half ∙ ap (drop 32) permuted)
