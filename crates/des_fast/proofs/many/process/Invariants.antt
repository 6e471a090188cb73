-- The blocks before the index are answered.
use Rattle.std.proofs.Common.{◌≡◌, ◌-◌, ◌≤◌, ◌++◌, ℕ, List, map, take, drop, length}
use Rattle.des_fast.specs.SpreadKeys.{AreSlicesFor}
use Rattle.des_fast.proofs.many.process.Given as goal

abbrev pub invariant-parts : goal.invariant-parts
invariant-parts g l =
    (l.from ≤ length l.blocks)
    × ((f : List ℕ → List ℕ) → AreSlicesFor g.S.Slice.BATCH g.S.Slice.bit l.passes f
    → l.blocks ≡ map f (take l.from l.initial.blocks) ++ drop l.from l.initial.blocks)

abbrev pub decreases-parts : goal.decreases-parts
decreases-parts g l = length l.blocks - l.from
