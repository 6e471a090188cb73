use Rattle.std.proofs.Common.{ℕ, List, replicate, refl, ◌∙◌, sym, subst, lit<}
use Rattle.des_payment.specs.PinBlocks.{pin_field, IsFormat2}
use Rattle.des_payment.proofs.FieldDigits.{AreDigits, AreDigits-pin_field}
use Rattle.des_payment.proofs.Decoding.{IsTheOne-digits}
use Rattle.des_payment.proofs.pin_blocks.encode_format_2.Goals as goal

pub block_of-requires-clause-digits : goal.block_of-requires-clause-digits
block_of-requires-clause-digits c =
    subst AreDigits (sym c.pin_field.ensures.field)
    (AreDigits-pin_field 2 15 c.args.pin.now (replicate 10 15) (lit< tt) c.pin_field.ensures.is_pin (refl, refl))

-- the block has the digits of the PIN field
pub returns : goal.returns
returns c =
    let pin : List ℕ = c.args.pin.now in
    let digits = c.block_of.ensures.digits ∙ c.pin_field.ensures.field in
    IsTheOne-digits (IsFormat2 pin) (pin_field 2 pin (replicate 10 15)) c.block_of.result (λ other is. is.1.1) digits
    (c.pin_field.ensures.is_pin, (c.block_of.ensures.block, digits))
