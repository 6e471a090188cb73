use Rattle.std.proofs.Common.{◌≡◌, ◌∙◌, ℕ, sym, ap, take, drop, arith}
use Rattle.std.proofs.lemmas.List.{take-append-le}
use Rattle.des_passwords.proofs.DecodedTexts.{decodes_none, decodes_then}
use Rattle.des_passwords.proofs.decoding.read_decoded.Goals as goal

pub reads-init : goal.reads-init
reads-init g c = decodes_none _ _ _ _

pub returns-then-kept-gt0-clause-decoded : goal.returns-then-kept-gt0-clause-decoded
returns-then-kept-gt0-clause-decoded g c =
    let text = c.squeeze-kept.new.text in
    let rest = drop c.in_ok-count.count c.read.new.buf in
    decodes_then _ _ _ _ _ _ _ _ _ c.reads.invariant (
      _,
      c.in_ok-count.ensures.bytes.0,
      take-append-le c.squeeze-kept.result text rest c.squeeze-kept.ensures.bound ∙ c.squeeze-kept.ensures.given,
      c.squeeze-kept.ensures.position,
    )

-- nothing was given once more
pub reads-preserved : goal.reads-preserved
reads-preserved g c =
    let none : c.squeeze-kept.result ≡ 0 = omega (arith, c.if-kept-gt0.false) in
    decodes_then _ _ _ _ _ _ _ _ _ c.reads.invariant (
      _,
      c.in_ok-count.ensures.bytes.0,
      sym (ap (λ (n : ℕ). take n c.squeeze-kept.new.text) none) ∙ c.squeeze-kept.ensures.given,
      c.squeeze-kept.ensures.position,
    )
