use Rattle.std.proofs.Common.{refl, ap, ◌∙◌}
use Rattle.des.specs.Bits.{bits_of_word}
use Rattle.des.specs.TermForms.{term_form_of_p}
use Rattle.des.proofs.TermSelections.{term_form_of_p-select}
use Rattle.des.proofs.utils.p.Goals as goal

-- the body is the terms, and they make the selection
pub returns-clause-terms : goal.returns-clause-terms
unfolding term_form_of_p
returns-clause-terms c =
    rw (c.gather.ensures, c.gather-2.ensures, c.gather-3.ensures, c.rotate_left.ensures, c.rotate_left-word.ensures)
    refl

pub returns-clause-selected : goal.returns-clause-selected
returns-clause-selected c =
    ap bits_of_word (returns-clause-terms c) ∙ term_form_of_p-select c.args.input c.ranges.input.fits c.requires
