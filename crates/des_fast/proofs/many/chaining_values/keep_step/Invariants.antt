-- The chains below k have gone on, or ended, and the others are as they were.
use Rattle.std.proofs.Common.{◌≡◌, ℕ, ◌+◌, ◌<◌, ◌≤◌, [], get_or}
use Rattle.des_fast.proofs.many.chaining_values.keep_step.Given as goal

abbrev pub invariant-lists : goal.invariant-lists
invariant-lists g l = record {
  gone_on : (m : ℕ) → m < l.k → l.i < g.L.BlockLists.count_of l.lists (l.from + m)
      → get_or l.chains m [] ≡ get_or l.lanes m [];
  ended : (m : ℕ) → m < l.k → g.L.BlockLists.count_of l.lists (l.from + m) ≤ l.i
      → get_or l.chains m [] ≡ get_or l.initial.chains m [];
  rest : (m : ℕ) → l.k ≤ m → get_or l.chains m [] ≡ get_or l.initial.chains m [];
}
