use Rattle.std.proofs.Common.{arith}
use Rattle.des_passwords.proofs.XoredBytes.{zip2-from_bytes}
use Rattle.des_passwords.proofs.xored.xor.Goals as goal

-- the loop has xored each byte
pub returns : goal.returns
returns c =
    zip2-from_bytes c.loop-i.bytes c.args.bytes.now c.args.others.now (omega arith) (omega arith)
    (λ k within. c.loop-i.invariant.xored k (omega arith))
