use Rattle.std.proofs.Common.{refl, ap, ◌∙◌}
use Rattle.des.specs.Bits.{bits_of_word}
use Rattle.des.specs.TermForms.{term_form_of_e}
use Rattle.des.proofs.TermSelections.{term_form_of_e-select}
use Rattle.des.proofs.utils.e.Goals as goal

-- the body is the terms, and they make the selection
pub returns-clause-terms : goal.returns-clause-terms
unfolding term_form_of_e
returns-clause-terms c = refl

pub returns-clause-selected : goal.returns-clause-selected
returns-clause-selected c =
    ap bits_of_word (returns-clause-terms c) ∙ term_form_of_e-select c.args.half_block c.ranges.half_block.fits
