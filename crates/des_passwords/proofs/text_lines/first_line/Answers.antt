use Rattle.std.proofs.Common.{◌≡◌, ◌∙◌, ap, [], arith}
use Rattle.std.proofs.lemmas.List.{nil_from_length}
use Rattle.des_passwords.specs.TextLines.{lines_of}
use Rattle.des_passwords.proofs.LinesOfText.{lines_none, lone_line, ended_line}
use Rattle.des_passwords.proofs.text_lines.first_line.Goals as goal

pub returns-then-is_empty-clause-lines : goal.returns-then-is_empty-clause-lines
returns-then-is_empty-clause-lines c =
    let none : c.args.text.now ≡ [] = grind (arith, nil_from_length) in
    ap lines_of none ∙ lines_none

pub returns-then-line-text-clause-lines : goal.returns-then-line-text-clause-lines
returns-then-line-text-clause-lines c =
    (lone_line c.args.text.now c.cut.result.0.now c.cut.result.1.now (grind arith) c.cut.ensures.before
    c.cut.ensures.after c.if-line-text.true).0

pub returns-then-line-text-clause-parts : goal.returns-then-line-text-clause-parts
returns-then-line-text-clause-parts c =
    (lone_line c.args.text.now c.cut.result.0.now c.cut.result.1.now (grind arith) c.cut.ensures.before
    c.cut.ensures.after c.if-line-text.true).1

pub returns-clause-lines : goal.returns-clause-lines
returns-clause-lines c =
    (ended_line c.args.text.now c.without_return.result.now c.cut.result.0.now c.cut.result.1.now
    c.cut.ensures.before c.cut.ensures.after
    c.if-line-text.false c.without_return.ensures).0

pub returns-clause-parts : goal.returns-clause-parts
returns-clause-parts c =
    (ended_line c.args.text.now c.without_return.result.now c.cut.result.0.now c.cut.result.1.now
    c.cut.ensures.before c.cut.ensures.after
    c.if-line-text.false c.without_return.ensures).1
