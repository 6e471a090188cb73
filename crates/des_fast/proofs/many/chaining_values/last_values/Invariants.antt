-- The chains before the index have ended, and the others are as they were.
use Rattle.std.proofs.Common.{◌≡◌, ℕ, ◌-◌, ◌≤◌, [], get_or, length, take, List}
use Rattle.des_fast.specs.ChainingValues.{AreChainingValues}
use Rattle.des_fast.proofs.many.chaining_values.last_values.Given as goal

abbrev pub invariant-groups : goal.invariant-groups
invariant-groups g l = record {
  within : l.from ≤ length l.initial.chains;
  made : (encryption : ℕ → List ℕ → List ℕ) → g.K.ChainKeys.encrypt l.keys encryption
      → AreChainingValues encryption (g.L.BlockLists.block_of l.lists)
      (g.L.BlockLists.count_of l.lists) (take l.from l.initial.chains) l.chains;
  rest : (m : ℕ) → l.from ≤ m → get_or l.chains m [] ≡ get_or l.initial.chains m [];
}

abbrev pub decreases-groups : goal.decreases-groups
decreases-groups g l = length l.chains - l.from
