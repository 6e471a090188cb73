-- The tags before the index are made, and the others are as they were.
use Rattle.std.proofs.Common.{◌≡◌, ◌-◌, ◌≤◌, ◌++◌, length, map, take, drop}
use Rattle.std.specs.Simd.Lanes.{zip2}
use Rattle.des_mac.specs.Cmac.{cmac}
use Rattle.des_mac.specs.ManyMessages.{texts}
use Rattle.des_mac.proofs.many.masked.cmacs_each_by.Given as goal

abbrev pub invariant-groups : goal.invariant-groups
invariant-groups g l = record {
  within : l.from ≤ length l.tags;
  made : l.tags ≡ zip2 (λ key m. cmac (g.C.KeyedCipher.encryption key) m)
      (take l.from (map g.C.Key.KeyBytes.bytes_of l.keys)) (take l.from (texts l.messages))
      ++ drop l.from l.initial.tags;
}

abbrev pub decreases-groups : goal.decreases-groups
decreases-groups g l = length l.initial.tags - l.from
