use Rattle.std.proofs.Common.{◌≡◌, map}
use Rattle.des.proofs.RoundsOnWords.{halves_of, halves_after}
use Rattle.des.proofs.des.run_rounds.Given as goal

-- the halves are what the round keys so far make of the first halves
abbrev pub invariant-loop-round_key : goal.invariant-loop-round_key
invariant-loop-round_key g l = record {
  can : (goal.iterator-loop-round_key g).can_next l.round_key-iterator;
  ends : (goal.iterator-loop-round_key g).is_finite l.round_key-iterator;
  rounds : halves_of l.halves ≡ halves_after (map (λ word. word.now) l.yielded) (halves_of l.initial.halves);
}
