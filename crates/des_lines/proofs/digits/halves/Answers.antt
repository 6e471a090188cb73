use Rattle.std.proofs.Common.{arith}
use Rattle.des_payment.proofs.DigitLists.{digits_of-from_places}
use Rattle.des_lines.proofs.digits.halves.Goals as goal

pub returns : goal.returns
returns c =
    digits_of-from_places c.loop-i.digits c.args.bytes.now (omega arith)
    (λ k within. c.loop-i.invariant.written k (omega arith))
