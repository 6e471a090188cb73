-- The keys before the index are written, and the others are as they were.
use Rattle.std.proofs.Common.{◌≡◌, ◌-◌, ◌≤◌, ◌++◌, length, map, take, drop}
use Rattle.des_payment.specs.Dukpt.{initial_key}
use Rattle.des_payment.proofs.transaction_lists.initial_keys_by.Given as goal

abbrev pub invariant-groups : goal.invariant-groups
invariant-groups g l = record {
  within : l.from ≤ length l.keys;
  written : l.keys ≡ map (initial_key l.base) (take l.from l.serials) ++ drop l.from l.initial.keys;
}

abbrev pub decreases-groups : goal.decreases-groups
decreases-groups g l = length l.initial.keys - l.from
