use Rattle.des_fast.specs.Slices.{InEachBlock}
use Rattle.des_fast.specs.Groups.{half_of}
use Rattle.des_fast.proofs.KeyedHalves.{AreAfterRounds}
use Rattle.des_fast.proofs.rounds.rounds.Given as goal

-- the words of each block are those after the rounds so far
abbrev pub invariant-loop-i : goal.invariant-loop-i
invariant-loop-i g l =
    record {
      after : InEachBlock g.G.Groups.BLOCKS (λ b. AreAfterRounds l.deciphers l.round_keys l.i
          (half_of (g.G.Groups.word b l.fn.left)) (half_of (g.G.Groups.word b l.fn.right))
          (g.G.Groups.word b l.next_left) (g.G.Groups.word b l.next_right));
    }
