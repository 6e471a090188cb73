use Rattle.std.proofs.Common.{◌+◌, ◌*◌, sym, ap, ◌∙◌, arith}
use Rattle.des_payment.specs.Digits.{bytes_of}
use Rattle.des_payment.proofs.DigitLists.{digits_of-from_places, bytes_of-digits_of}
use Rattle.des_payment.proofs.digits.write_bytes.Goals as goal

pub returns-clause-digits : goal.returns-clause-digits
returns-clause-digits c =
    sym (digits_of-from_places c.args.digits.now c.loop-i.bytes (omega arith) (λ k within.
    let low = c.requires.digits (2 * k + 1) 0 (omega arith) in
    let is = c.loop-i.invariant.written k (omega arith) in
    (omega arith, omega arith)))

pub returns-clause-bytes : goal.returns-clause-bytes
returns-clause-bytes c =
    sym (bytes_of-digits_of c.loop-i.bytes) ∙ ap bytes_of (returns-clause-digits c)
