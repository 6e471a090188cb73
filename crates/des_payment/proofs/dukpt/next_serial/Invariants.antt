use Rattle.std.proofs.Common.{ℕ, ◌<◌}
use Rattle.des_payment.specs.Dukpt.{IsUsable}
use Rattle.des_payment.proofs.dukpt.next_serial.Given as goal

-- none of the counters before is usable
abbrev pub invariant-loop-next : goal.invariant-loop-next
invariant-loop-next l = (other : ℕ) → l.counter < other → other < l.next → ¬ (IsUsable other)
