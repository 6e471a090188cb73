-- The record does not begin after the block.
use Rattle.std.proofs.Common.{◌≡◌, ◌-◌, ◌≤◌, length}
use Rattle.des_fast.specs.Records.{start}
use Rattle.des_fast.proofs.many.records.record_with.Given as goal

abbrev pub invariant-records : goal.invariant-records
invariant-records l = record {
  starts : l.start ≡ start l.sizes l.number;
  before : l.start ≤ l.place;
}

abbrev pub decreases-records : goal.decreases-records
decreases-records l = length l.sizes - l.number
