-- Where the records below k end, and the longest of them.
use Rattle.std.proofs.Common.{◌≡◌, ◌+◌, get_or}
use Rattle.des_fast.specs.Largest.{IsLargest}
use Rattle.des_fast.specs.Records.{start}
use Rattle.des_fast.proofs.many.records.Group.extent.Given as goal

abbrev pub invariant-records : goal.invariant-records
invariant-records l = record {
  ends : l.end ≡ start l.sizes (l.self.from + l.k);
  longest : IsLargest l.k (λ m. get_or l.sizes (l.self.from + m) 0) l.steps;
}
