use Rattle.std.proofs.Common.{◌≡◌, ◌+◌, ◌≤◌, length}
use Rattle.des_passwords.specs.Base64Lines.{line_at}
use Rattle.des_passwords.specs.TextLines.{lines_of}
use Rattle.des_passwords.proofs.base64_lines.line_at.Given as goal

-- the line is that of a place in the lines that are left
abbrev pub invariant-lines : goal.invariant-lines
invariant-lines l = record {
  numbers : l.number + length l.rest ≤ l.initial.number + length l.text;
  read : line_at l.initial.number l.initial.place (lines_of l.text) ≡ line_at l.number l.place (lines_of l.rest);
}

abbrev pub decreases-lines : goal.decreases-lines
decreases-lines l = length l.rest
