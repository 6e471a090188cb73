use Rattle.std.proofs.Common.{◌∙◌}
use Rattle.des_payment.proofs.FillPlaces.{zeros-after}
use Rattle.des_payment.proofs.filling.first_or_zeros.Goals as goal

pub returns-clause-digits : goal.returns-clause-digits
returns-clause-digits c = λ k within.
    c.to_digits.ensures.digits k within
    ∙ zeros-after c.first_of.result c.args.count c.args.digits.now c.requires.count c.first_of.ensures.small
    c.first_of.ensures.digits k within
