-- The values before the index are written, and the others are as they were.
use Rattle.std.proofs.Common.{◌≡◌, ◌-◌, ◌≤◌, ◌++◌, length, map, take, drop, replicate}
use Rattle.des_payment.proofs.check_value_lists.check_values_by.Given as goal

abbrev pub invariant-groups : goal.invariant-groups
invariant-groups g l = record {
  within : l.from ≤ length l.values;
  written : l.values ≡ map (λ key. take 3 (g.C.KeyedCipher.encryption (g.C.Key.KeyBytes.bytes_of key) (replicate 8 0)))
      (take l.from l.keys) ++ drop l.from l.initial.values;
}

abbrev pub decreases-groups : goal.decreases-groups
decreases-groups g l = length l.initial.values - l.from
