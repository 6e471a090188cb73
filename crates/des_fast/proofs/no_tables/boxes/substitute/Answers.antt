use Rattle.std.proofs.Common.{slice_index, ap, ◌∙◌, arith}
use Rattle.des.specs.Bits.{bits_of}
use Rattle.des_fast.proofs.ChosenEntries.{in_order-substitute, IsExpansionOf-substitute}
use Rattle.des_fast.proofs.no_tables.boxes.substitute.Goals as goal

pub returns : goal.returns
returns c =
    let is = IsExpansionOf-substitute c.args.word c.word_of.result _ (omega arith)
    (c.word_of.ensures.bits ∙ c.expanded.ensures)
    (in_order-substitute c.args.word (λ i. bits_of 4 (slice_index c.entries.result i))
    (λ i below. ap (bits_of 4) (c.entries.ensures.entries i below))) in
    record { expansion = is.is_expansion; substituted = is.has_half }
