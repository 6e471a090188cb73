use Rattle.std.proofs.Common.{◌≤◌, length}
use Rattle.des_passwords.proofs.LinesOfPem.{IsBodySoFar, front_of}
use Rattle.des_passwords.proofs.pem.body_of.Given as goal

-- what stands before the lines that are left is of the body
abbrev pub invariant-lines : goal.invariant-lines
invariant-lines l = record {
  within : length l.rest ≤ length l.text;
  so_far : IsBodySoFar l.last l.text (front_of l.text l.rest) l.rest;
}

abbrev pub decreases-lines : goal.decreases-lines
decreases-lines l = length l.rest
