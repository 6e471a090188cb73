use Rattle.std.proofs.Common.{◌∙◌, sym, subst, List, ℕ, [], arith}
use Rattle.des_passwords.proofs.LinesOfPem.{IsBodySoFar, body_begins, body_goes_on, front_is}
use Rattle.des_passwords.proofs.pem.body_of.Goals as goal

pub lines-init : goal.lines-init
lines-init c =
    let last = c.args.last.now in
    let text = c.args.text.now in
    let begun = body_begins last text in
    record {
      within = omega arith;
      so_far = subst (λ (front : List ℕ). IsBodySoFar last text front text) (front_is text [] text begun.parts) begun;
    }

-- a line of the body
pub lines-preserved : goal.lines-preserved
lines-preserved c = record {
  within = omega (arith, c.in-Some.ensures.shorter);
  so_far =
      body_goes_on c.args.last.now c.args.text.now c.in-Some.line.now c.lines.rest.now c.in-Some.after.now
      c.lines.invariant.so_far
      c.in-Some.ensures.shorter c.in-Some.ensures.lines (sym c.starts_with.ensures.value ∙ c.if-starts_with.false)
      c.in-Some.ensures.parts;
}
