-- The bits of the counters from the place on are done, and those below are to follow.
use Rattle.std.proofs.Common.{◌≡◌, ℕ, ◌<◌, [], length, get_or}
use Rattle.des_payment.specs.Dukpt.{transaction_key, derived, ones_below, counter_of, last_bytes}
use Rattle.des_payment.proofs.CounterPlaces.{cleared}
use Rattle.des_payment.proofs.transaction_lists.derive_group.Given as goal

abbrev pub invariant-places : goal.invariant-places
invariant-places g l = (k : ℕ) → k < length l.serials
    → derived (ones_below l.place (counter_of (get_or l.serials k []))) (cleared (last_bytes (get_or l.serials k [])) l.place)
    (get_or l.keys k [])
    ≡ transaction_key (get_or l.initial.keys k []) (get_or l.serials k [])
