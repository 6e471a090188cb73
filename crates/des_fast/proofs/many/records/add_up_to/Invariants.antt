-- What is left of the total after the records below k.
use Rattle.std.proofs.Common.{◌≡◌, ◌+◌}
use Rattle.des_fast.specs.Records.{start}
use Rattle.des_fast.proofs.many.records.add_up_to.Given as goal

abbrev pub invariant-records : goal.invariant-records
invariant-records l = l.left + start l.sizes l.k ≡ l.total
