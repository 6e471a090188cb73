use Rattle.std.proofs.Common.{ap₂, ◌∙◌}
use Rattle.des.specs.Cbc.{xor_blocks}
use Rattle.des.proofs.ByteArrays.{IsBlock-array}
use Rattle.des_payment.proofs.Decoding.{decodes-format_3}
use Rattle.des_payment.proofs.pin_blocks.decode_format_3.Goals as goal

-- what is read of the PIN field is the PIN that the block was encoded from
pub returns-clause-decoded : goal.returns-clause-decoded
returns-clause-decoded c =
    decodes-format_3 c.args.account.now c.args.block.now c.xored.result c.in_ok-account.ensures.number
    (IsBlock-array c.args.block.now c.told-block c.fits-block)
    (c.xored.ensures ∙ ap₂ xor_blocks c.digits_of.ensures c.in_ok-account.ensures.field) c.read_pin.result
    (c.read_pin.ensures.fault, c.read_pin.ensures.pin)
