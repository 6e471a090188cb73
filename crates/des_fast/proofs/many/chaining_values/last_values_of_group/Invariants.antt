-- The chains have gone through the first i blocks of their lists, or through all.
use Rattle.std.proofs.Common.{◌+◌, min}
use Rattle.des_fast.specs.EachKey.{lane_output}
use Rattle.des_fast.specs.ChainingValues.{AreChainingValues}
use Rattle.des_fast.proofs.many.chaining_values.last_values_of_group.Given as goal

abbrev pub invariant-steps : goal.invariant-steps
invariant-steps g l =
    AreChainingValues (λ k. lane_output (g.S.Slice.bit k) l.passes)
    (λ k. g.L.BlockLists.block_of l.lists (l.from + k))
    (λ k. min l.i (g.L.BlockLists.count_of l.lists (l.from + k))) l.initial.chains l.chains
