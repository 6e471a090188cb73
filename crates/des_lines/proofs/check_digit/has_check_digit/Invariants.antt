use Rattle.std.proofs.Common.{◌≡◌, ◌≤◌, ◌+◌, ◌*◌, drop}
use Rattle.des_lines.specs.CheckDigits.{luhn_sum}
use Rattle.des_lines.proofs.check_digit.has_check_digit.Given as goal

-- the digits before the index are added
abbrev pub invariant-loop-i : goal.invariant-loop-i
invariant-loop-i l = record {
  added : l.sum + luhn_sum (drop l.i l.digits) ≡ luhn_sum l.digits;
  small : l.sum ≤ 255 * l.i;
}
