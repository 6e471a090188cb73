use Rattle.std.proofs.Common.{sym, subst}
use Rattle.des_payment.proofs.FieldDigits.{AreDigits, AreDigits-values}
use Rattle.des_payment.proofs.emv.card_block.Goals as goal

-- the values of the text are digits
pub block_of-requires-clause-digits : goal.block_of-requires-clause-digits
block_of-requires-clause-digits c =
    subst AreDigits (sym c.to_values.ensures)
    (AreDigits-values c.rightmost_digits-digits.result c.rightmost_digits-digits.ensures.digits)
