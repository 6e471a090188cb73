-- The tags before the index are made, and the others are as they were.
use Rattle.std.proofs.Common.{◌≡◌, ◌-◌, ◌≤◌, ◌++◌, length, take, drop}
use Rattle.std.specs.Simd.Lanes.{zip2}
use Rattle.des_mac.specs.ManyMessages.{texts}
use Rattle.des_context.specs.MacAlgorithms.{mac_by}
use Rattle.des_context.proofs.mac_lists.write_retail_macs.Given as goal

abbrev pub invariant-groups : goal.invariant-groups
invariant-groups g l = record {
  within : l.from ≤ length l.tags;
  made : l.tags ≡ zip2 (mac_by 3 l.padding) (take l.from l.keys) (take l.from (texts l.messages))
      ++ drop l.from l.initial.tags;
}

abbrev pub decreases-groups : goal.decreases-groups
decreases-groups g l = length l.initial.tags - l.from
