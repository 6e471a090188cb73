use Rattle.des_lines.proofs.pin_lines.pin_line.Goals as goal

-- the command is the one that the line is for
pub returns-in-Translate-clause-line : goal.returns-in-Translate-clause-line
returns-in-Translate-clause-line c = rw c.in-Translate.is c.translated_line.ensures.line
