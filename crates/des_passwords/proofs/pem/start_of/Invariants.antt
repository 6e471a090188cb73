use Rattle.std.proofs.Common.{◌≡◌, ◌+◌, ◌≤◌, length}
use Rattle.des_passwords.specs.Pem.{start_of}
use Rattle.des_passwords.specs.TextLines.{lines_of}
use Rattle.des_passwords.proofs.pem.start_of.Given as goal

-- the lines that are left give what all lines give
abbrev pub invariant-lines : goal.invariant-lines
invariant-lines l = record {
  numbers : l.number + length l.rest ≤ length l.text + 1;
  read : start_of 1 (lines_of l.text) ≡ start_of l.number (lines_of l.rest);
}

abbrev pub decreases-lines : goal.decreases-lines
decreases-lines l = length l.rest
