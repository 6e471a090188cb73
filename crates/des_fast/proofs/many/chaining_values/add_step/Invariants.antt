-- The lanes below k are made.
use Rattle.std.proofs.Common.{◌≡◌, ℕ, ◌+◌, ◌<◌, [], get_or, length}
use Rattle.des.specs.Cbc.{xor_blocks}
use Rattle.des_fast.proofs.many.chaining_values.add_step.Given as goal

abbrev pub invariant-lists : goal.invariant-lists
invariant-lists g l = record {
  count : length l.lanes ≡ 256;
  added : (m : ℕ) → m < l.k → l.i < g.L.BlockLists.count_of l.lists (l.from + m)
      → get_or l.lanes m [] ≡ xor_blocks (g.L.BlockLists.block_of l.lists (l.from + m) l.i) (get_or l.chains m []);
}
