use Rattle.std.proofs.Common.{rules, ◌≡◌}
use Rattle.des_context.specs.declared.status.TheConstants.{OK}
use Rattle.des_c.proofs.payment.pin_blocks.cukvashe_pin_decode_1.Goals as goal

pub returns-clause-decoded : goal.returns-clause-decoded
returns-clause-decoded c = λ done.
    let same : c.write_pin.result ≡ OK = search (rules, done) in
    let written = c.write_pin.ensures.pin same in
    let made = (c.decode_format_1.ensures.decoded written.0).0 written.1 in
    (written.0, made.0, made.1, written.2)

pub returns-clause-complete : goal.returns-clause-complete
returns-clause-complete c = λ text transaction made.
    let all = c.write_pin.ensures.complete text ((c.decode_format_1.ensures.decoded text).1 (transaction, made)) in
    (search (rules, all.0), all.1)
