use Rattle.std.proofs.Common.{arith}
use Rattle.des.proofs.XoredBlocks.{xor_blocks-from_bytes}
use Rattle.des.proofs.cbc.xor.Goals as goal

-- the loop has xored each byte
pub returns : goal.returns
returns c =
    xor_blocks-from_bytes c.loop-i.block c.args.block.now c.args.other.now (omega arith) (omega arith)
    (λ k within. c.loop-i.invariant.xored k (omega arith))
