use Rattle.std.proofs.Common.{length, ◌∙◌, arith}
use Rattle.des_payment.proofs.FillPlaces.{digit-first, first-small}
use Rattle.des_payment.proofs.filling.first_of.Goals as goal

pub returns-clause-small : goal.returns-clause-small
returns-clause-small c =
    first-small c.number_of.result (length c.args.digits.now) c.args.count c.requires.some c.number_of.ensures.small

pub returns-clause-digits : goal.returns-clause-digits
returns-clause-digits c = λ i within.
    digit-first c.number_of.result (length c.args.digits.now) c.args.count i c.requires.some within
    ∙ c.number_of.ensures.digits i (omega (arith, c.requires.some))
