use Rattle.std.proofs.Common.{◌≡◌, ℕ, ◌*◌, ◌%◌, ◌^◌, ◌<◌, ◌≤◌, length, get_or}
use Rattle.des_payment.specs.Digits.{digit_in}
use Rattle.des_payment.proofs.filling.number_of.Given as goal

-- the digits so far are those of the number
abbrev pub invariant-loop-digit : goal.invariant-loop-digit
invariant-loop-digit l = record {
  few : l.digit-index ≤ length l.digits;
  small : l.number < 2 ^ (4 * l.digit-index);
  digits : (i : ℕ) → i < l.digit-index → digit_in l.number l.digit-index i ≡ get_or l.digits i 0 % 16;
}
