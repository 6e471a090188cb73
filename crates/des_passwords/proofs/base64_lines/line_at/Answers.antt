use Rattle.std.proofs.Common.{◌∙◌, arith, sym}
use Rattle.des_passwords.proofs.LinesOfBase64.{in_line, after_line, no_line}
use Rattle.des_passwords.proofs.base64_lines.line_at.Goals as goal

pub returns-then-place-count : goal.returns-then-place-count
returns-then-place-count c =
    let cut = c.trimmed-count.ensures in
    sym (c.lines.invariant.read
    ∙ in_line c.lines.number c.lines.place c.in-Some.line.now _ _ c.in-Some.ensures.lines (rw cut at c.if-place-count.true))

pub lines-preserved : goal.lines-preserved
lines-preserved c =
    let cut = c.trimmed-count.ensures in
    record {
      numbers = omega (arith, c.in-Some.ensures.shorter, c.lines.invariant.numbers);
      read =
          rw cut (c.lines.invariant.read
          ∙ after_line c.lines.number c.lines.place c.in-Some.line.now _ _ c.in-Some.ensures.lines
          (rw cut at c.if-place-count.false));
    }

pub returns : goal.returns
returns c = sym (c.lines.invariant.read ∙ no_line c.lines.number c.lines.place _ c.in_default.ensures.lines)
