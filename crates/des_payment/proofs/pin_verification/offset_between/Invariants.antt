use Rattle.std.proofs.Common.{◌≡◌, ℕ, ◌+◌, ◌-◌, ◌%◌, ◌<◌, get_or, length}
use Rattle.des_payment.proofs.pin_verification.offset_between.Given as goal

-- the digits before the index are those of the offset
abbrev pub invariant-places : goal.invariant-places
invariant-places l = record {
  long : length l.digits ≡ 12;
  made : (k : ℕ) → k < l.i → get_or l.digits k 0 ≡ (get_or l.text k 0 + 10 - get_or l.known k 0) % 10;
}
