-- The most blocks of the lists below k.
use Rattle.std.proofs.Common.{◌+◌}
use Rattle.des_fast.specs.Largest.{IsLargest}
use Rattle.des_fast.proofs.many.chaining_values.longest.Given as goal

abbrev pub invariant-lists : goal.invariant-lists
invariant-lists g l = IsLargest l.k (λ m. g.L.BlockLists.count_of l.lists (l.from + m)) l.most
