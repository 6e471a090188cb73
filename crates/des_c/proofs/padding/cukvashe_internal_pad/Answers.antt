use Rattle.std.proofs.Common.{◌≡◌, ℕ, List, ◌+◌, ◌*◌, ◌/◌, ◌≤◌, length, take, drop, arith, ap, sym, ◌∙◌, drop_at}
use Rattle.std.proofs.Common.{length-take-le}
use Rattle.des_context.proofs.PaddedCounts.{pads, counted}
use Rattle.des_c.proofs.padding.cukvashe_internal_pad.Goals as goal

-- the padded bytes fill the blocks that were given to `pad`
pub returns-clause-padded_length : goal.returns-clause-padded_length
returns-clause-padded_length c = λ done.
    let buffer : List ℕ = c.args.buffer.now in
    let end : ℕ = 8 * (c.args.count / 8) + 8 in
    let fits : end ≤ length buffer = omega (arith, c.if-count-buffer.false) in
    let long : length (take end buffer) ≡ end = length-take-le end buffer fits in
    counted c.in-Some.padding c.pad.new.bytes (take end buffer) c.pad.result c.args.count
    (pads _ _ c.in-Some.ensures.found) (omega (arith, long)) c.pad.ensures.within c.pad.ensures.padded

pub returns-clause-after : goal.returns-clause-after
returns-clause-after c = λ done.
    let buffer : List ℕ = c.args.buffer.now in
    let end : ℕ = 8 * (c.args.count / 8) + 8 in
    let fits : end ≤ length buffer = omega (arith, c.if-count-buffer.false) in
    let same : c.pad.result ≡ end = omega (arith, returns-clause-padded_length c done) in
    drop_at c.pad.new.bytes (drop end buffer) c.pad.result
    (c.pad.auto.bytes ∙ length-take-le end buffer fits ∙ sym same)
    ∙ ap (λ n. drop n buffer) (sym same)
