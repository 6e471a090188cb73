-- The keys before the index are derived, and the others are as they were.
use Rattle.std.proofs.Common.{◌≡◌, ◌-◌, ◌≤◌, ◌++◌, length, take, drop}
use Rattle.std.specs.Simd.Lanes.{zip2}
use Rattle.des_payment.specs.Dukpt.{transaction_key}
use Rattle.des_payment.proofs.transaction_lists.derive_keys_by.Given as goal

abbrev pub invariant-groups : goal.invariant-groups
invariant-groups g l = record {
  within : l.from ≤ length l.keys;
  derived : l.keys ≡ zip2 (λ serial key. transaction_key key serial) (take l.from l.serials) (take l.from l.initial.keys)
      ++ drop l.from l.initial.keys;
}

abbrev pub decreases-groups : goal.decreases-groups
decreases-groups g l = length l.initial.keys - l.from
