use Rattle.std.proofs.Common.{◌≡◌, refl, ap, ◌∙◌, length, rules}
use Rattle.des_c.proofs.payment.key_blocks.cukvashe_key_block_unwrap.Goals as goal

pub returns-in-Ok-clause-only : goal.returns-in-Ok-clause-only
returns-in-Ok-clause-only c = λ of bytes holds.
    let same : c.bytes-bytes.result.now ≡ bytes = c.bytes-bytes.ensures ∙ (c.in-Ok.ensures.only of bytes holds).1 in
    let long : length c.args.key.now ≡ 24 = search rules in
    (refl, rw (long, same) at c.put.ensures, ap length same)

pub returns-in-Err-clause-only : goal.returns-in-Err-clause-only
returns-in-Err-clause-only c = λ of bytes holds. absurd (c.in-Err.ensures.only of bytes holds)
