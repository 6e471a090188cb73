use Rattle.std.proofs.Common.{arith}
use Rattle.des.proofs.XoredBlocks.{xor_blocks-from_bytes}
use Rattle.des_payment.proofs.xor.xored.Goals as goal

-- the loop has xored each byte
pub returns : goal.returns
returns g c =
    xor_blocks-from_bytes c.loop-i.byte-items c.args.bytes.now c.args.others.now (omega arith) (omega arith)
    (λ k within. c.loop-i.invariant.xored k (omega arith))
