use Rattle.std.proofs.Common.{ℕ, List, replicate, refl, sym, ap₂, ◌∙◌, subst, lit<}
use Rattle.des.specs.Cbc.{xor_blocks}
use Rattle.des_payment.specs.PinBlocks.{pin_field, account_field, IsFormat0}
use Rattle.des_payment.proofs.FieldDigits.{AreDigits, AreDigits-fields}
use Rattle.des_payment.proofs.Decoding.{IsTheOne-digits}
use Rattle.des_payment.proofs.pin_blocks.encode_format_0.Goals as goal

pub block_of-requires-clause-digits : goal.block_of-requires-clause-digits
block_of-requires-clause-digits c =
    let fields = c.xored.ensures ∙ ap₂ xor_blocks c.pin_field.ensures.field c.in_ok-account.ensures.field in
    subst AreDigits (sym fields)
    (AreDigits-fields 0 15 c.args.pin.now (replicate 10 15) c.args.account.now (lit< tt) c.pin_field.ensures.is_pin
    (refl, refl) c.in_ok-account.ensures.number)

-- the block has the digits of the two fields
pub returns-clause-block : goal.returns-clause-block
returns-clause-block c =
    let pin : List ℕ = c.args.pin.now in
    let account : List ℕ = c.args.account.now in
    let digits = c.block_of.ensures.digits ∙ c.xored.ensures
    ∙ ap₂ xor_blocks c.pin_field.ensures.field c.in_ok-account.ensures.field in
    IsTheOne-digits (IsFormat0 pin account) (xor_blocks (pin_field 0 pin (replicate 10 15)) (account_field account))
    c.block_of.result (λ other is. is.2.1) digits
    (c.pin_field.ensures.is_pin, c.in_ok-account.ensures.number, (c.block_of.ensures.block, digits))
