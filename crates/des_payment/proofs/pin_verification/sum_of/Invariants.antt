use Rattle.std.proofs.Common.{◌≡◌, ℕ, ◌+◌, ◌-◌, ◌%◌, ◌<◌, get_or, length}
use Rattle.des_payment.proofs.pin_verification.sum_of.Given as goal

-- the digits before the index are those of the sum
abbrev pub invariant-places : goal.invariant-places
invariant-places l = record {
  long : length l.digits ≡ 12;
  made : (k : ℕ) → k < l.i → get_or l.digits k 0 ≡ (get_or l.known k 0 - 48 + (get_or l.text k 0 - 48)) % 10;
}
