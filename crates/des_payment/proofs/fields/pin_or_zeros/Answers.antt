use Rattle.std.proofs.Common.{◌∙◌}
use Rattle.des_payment.proofs.PickedDigits.{picked-taken, picked-decimal, picked-text}
use Rattle.des_payment.proofs.fields.pin_or_zeros.Goals as goal

pub of_first-requires-clause-digits : goal.of_first-requires-clause-digits
of_first-requires-clause-digits c =
    picked-decimal c.args.is_right c.args.field.now c.chosen-count.result c.first_or_zeros.result c.told-field
    c.chosen-count.ensures c.requires.at_most c.requires.digits
    (picked-taken c.args.is_right c.args.field.now c.chosen-count.result c.chosen-taken.result c.first_or_zeros.result
    c.told-field c.chosen-count.ensures c.chosen-taken.ensures c.requires.at_most c.requires.digits
    c.first_or_zeros.ensures.long c.first_or_zeros.ensures.digits)

pub returns : goal.returns
returns c = λ yes.
    c.of_first.ensures
    ∙ picked-text c.args.is_right c.args.field.now c.chosen-count.result c.first_or_zeros.result c.told-field
    c.chosen-count.ensures c.requires.at_most
    (picked-taken c.args.is_right c.args.field.now c.chosen-count.result c.chosen-taken.result c.first_or_zeros.result
    c.told-field c.chosen-count.ensures c.chosen-taken.ensures c.requires.at_most c.requires.digits
    c.first_or_zeros.ensures.long c.first_or_zeros.ensures.digits) yes
