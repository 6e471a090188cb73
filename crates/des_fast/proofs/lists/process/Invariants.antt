-- The blocks before the index are answered.
use Rattle.std.proofs.Common.{◌≡◌, ◌-◌, ◌≤◌, ◌++◌, map, take, drop, length}
use Rattle.des_fast.proofs.lists.process.Given as goal

abbrev pub invariant-parts : goal.invariant-parts
invariant-parts g l =
    (l.from ≤ length l.blocks)
    × (l.blocks ≡ map (g.A.BlockTransform.output l.passes) (take l.from l.initial.blocks) ++ drop l.from l.initial.blocks)

abbrev pub decreases-parts : goal.decreases-parts
decreases-parts g l = length l.blocks - l.from
