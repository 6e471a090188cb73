use Rattle.std.proofs.Common.{◌≡◌, ◌≤◌, ◌+◌, drop}
use Rattle.std.specs.Prelude.{nat_eq}
use Rattle.std.specs.Set.{distinct_count}
use Rattle.des.proofs.des.count_distinct.Given as goal

-- the count so far and the number of different words among those still to come make the number of different words
abbrev pub invariant-loop-i : goal.invariant-loop-i
invariant-loop-i l = record {
  within : l.distinct ≤ l.i;
  counted : l.distinct + distinct_count nat_eq (drop l.i l.words) ≡ distinct_count nat_eq l.words;
}
