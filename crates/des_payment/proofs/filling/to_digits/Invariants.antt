use Rattle.std.proofs.Common.{◌≡◌, ℕ, ◌<◌, length, get_or}
use Rattle.des_payment.specs.Digits.{digit_in}
use Rattle.des_payment.proofs.filling.to_digits.Given as goal

-- the digits before the index are written
abbrev pub invariant-loop-k : goal.invariant-loop-k
invariant-loop-k g l = record {
  long : length l.digit-items ≡ g.row.N;
  written : (j : ℕ) → j < l.k → get_or l.digit-items j 0 ≡ digit_in l.number g.row.N j;
}
