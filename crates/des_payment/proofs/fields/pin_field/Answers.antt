use Rattle.std.proofs.Common.{ℕ, take, subst, sym, ap, ◌∙◌}
use Rattle.des_payment.proofs.FieldDigits.{AreDigits, AreDigits-values}
use Rattle.des_payment.proofs.PinFields.{pin_field-made}
use Rattle.des_payment.proofs.fields.pin_field.Goals as goal

-- its values are of digits
pub filled-requires-clause-values : goal.filled-requires-clause-values
filled-requires-clause-values c =
    subst AreDigits (sym (ap (λ (n : ℕ). take n c.values.result) c.count-count.ensures.count ∙ c.values.ensures))
    (AreDigits-values c.args.pin.now c.count-count.ensures.is_pin.2)

pub returns-clause-field : goal.returns-clause-field
returns-clause-field c =
    pin_field-made c.args.pin.now c.args.fill.now c.count-count.ensures.is_pin c.args.format c.count-count.result
    c.values.result c.copy_from_slice.new.self c.count-count.ensures.count c.values.ensures
    (c.copy_from_slice.ensures.after ∙ c.filled.ensures)
