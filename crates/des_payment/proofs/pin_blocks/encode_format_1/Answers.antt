use Rattle.std.proofs.Common.{ℕ, List, ◌∙◌, sym, subst, lit<}
use Rattle.des_payment.specs.PinBlocks.{pin_field, AreFill, IsFormat1}
use Rattle.des_payment.proofs.FieldDigits.{AreDigits, AreDigits-pin_field}
use Rattle.des_payment.proofs.Decoding.{IsTheOne-digits}
use Rattle.des_payment.proofs.pin_blocks.encode_format_1.Goals as goal

pub block_of-requires-clause-digits : goal.block_of-requires-clause-digits
block_of-requires-clause-digits c =
    let filled : AreFill 0 c.args.transaction.now = (c.told-transaction, sym c.if-not-are_fill.ensures) in
    subst AreDigits (sym c.pin_field.ensures.field)
    (AreDigits-pin_field 1 0 c.args.pin.now c.args.transaction.now (lit< tt) c.pin_field.ensures.is_pin filled)

-- the block has the digits of the PIN field
pub returns-clause-block : goal.returns-clause-block
returns-clause-block c =
    let pin : List ℕ = c.args.pin.now in
    let transaction : List ℕ = c.args.transaction.now in
    let filled : AreFill 0 transaction = (c.told-transaction, sym c.if-not-are_fill.ensures) in
    let digits = c.block_of.ensures.digits ∙ c.pin_field.ensures.field in
    IsTheOne-digits (IsFormat1 pin transaction) (pin_field 1 pin transaction) c.block_of.result (λ other is. is.2.1)
    digits (c.pin_field.ensures.is_pin, filled, (c.block_of.ensures.block, digits))
