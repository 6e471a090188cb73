use Rattle.std.proofs.Common.{ℕ, List, sym, ap₂, ◌∙◌, subst, lit<}
use Rattle.des.specs.Cbc.{xor_blocks}
use Rattle.des_payment.specs.PinBlocks.{pin_field, account_field, AreFill, IsFormat3}
use Rattle.des_payment.proofs.FieldDigits.{AreDigits, AreDigits-fields}
use Rattle.des_payment.proofs.Decoding.{IsTheOne-digits}
use Rattle.des_payment.proofs.pin_blocks.encode_format_3.Goals as goal

pub block_of-requires-clause-digits : goal.block_of-requires-clause-digits
block_of-requires-clause-digits c =
    let filled : AreFill 10 c.args.fill.now = (c.told-fill, sym c.if-not-are_fill.ensures) in
    let fields = c.xored.ensures ∙ ap₂ xor_blocks c.pin_field.ensures.field c.in_ok-account.ensures.field in
    subst AreDigits (sym fields)
    (AreDigits-fields 3 10 c.args.pin.now c.args.fill.now c.args.account.now (lit< tt) c.pin_field.ensures.is_pin filled
    c.in_ok-account.ensures.number)

-- the block has the digits of the two fields
pub returns-clause-block : goal.returns-clause-block
returns-clause-block c =
    let pin : List ℕ = c.args.pin.now in
    let account : List ℕ = c.args.account.now in
    let fill : List ℕ = c.args.fill.now in
    let filled : AreFill 10 fill = (c.told-fill, sym c.if-not-are_fill.ensures) in
    let digits = c.block_of.ensures.digits ∙ c.xored.ensures
    ∙ ap₂ xor_blocks c.pin_field.ensures.field c.in_ok-account.ensures.field in
    IsTheOne-digits (IsFormat3 pin account fill) (xor_blocks (pin_field 3 pin fill) (account_field account))
    c.block_of.result (λ other is. is.3.1) digits
    (c.pin_field.ensures.is_pin, c.in_ok-account.ensures.number, filled, (c.block_of.ensures.block, digits))
