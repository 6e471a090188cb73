use Rattle.std.proofs.Common.{◌≡◌}
use Rattle.des_payment.specs.Dukpt.{ones_below, derived}
use Rattle.des_payment.proofs.dukpt.transaction_key.Given as goal

-- the bits from this place on are done, and those below are to follow
abbrev pub invariant-loop-place : goal.invariant-loop-place
invariant-loop-place l =
    derived (ones_below l.place l.counter) l.register l.key
    ≡ derived (ones_below 21 l.initial.counter) l.initial.register l.initial.key
