use Rattle.des.proofs.ByteArrays.{IsBlock-array}
use Rattle.des_payment.proofs.Decoding.{decodes-format_2}
use Rattle.des_payment.proofs.pin_blocks.decode_format_2.Goals as goal

-- what is read of the PIN field is the PIN that the block was encoded from
pub returns-clause-decoded : goal.returns-clause-decoded
returns-clause-decoded c =
    decodes-format_2 c.args.block.now c.digits_of.result (IsBlock-array c.args.block.now c.told-block c.fits-block)
    c.digits_of.ensures c.read_pin.result (c.read_pin.ensures.fault, c.read_pin.ensures.pin)
