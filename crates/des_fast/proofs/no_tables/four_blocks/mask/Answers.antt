use Rattle.des_fast.proofs.EachByte.{masks}
use Rattle.des_fast.proofs.no_tables.four_blocks.mask.Goals as goal

pub returns : goal.returns
returns c = masks c.args.bit c.args.bytes c.fits-bytes.0
