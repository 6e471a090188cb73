use Rattle.des.proofs.ByteArrays.{IsBlock-array}
use Rattle.des_payment.proofs.Decoding.{decodes-format_1}
use Rattle.des_payment.proofs.pin_blocks.decode_format_1.Goals as goal

-- what is read of the PIN field is the PIN that the block was encoded from
pub returns-clause-decoded : goal.returns-clause-decoded
returns-clause-decoded c =
    decodes-format_1 c.args.block.now c.digits_of.result (IsBlock-array c.args.block.now c.told-block c.fits-block)
    c.digits_of.ensures c.read_pin.result (c.read_pin.ensures.fault, c.read_pin.ensures.pin)
