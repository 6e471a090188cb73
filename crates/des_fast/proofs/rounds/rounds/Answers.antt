use Rattle.std.proofs.Common.{arith}
use Rattle.des_fast.proofs.GroupWords.{IsOfGroups-xor}
use Rattle.des_fast.proofs.KeyedHalves.{AreAfterRounds-none, AreAfterRounds-two_more, after_rounds-without_keys}
use Rattle.des_fast.proofs.rounds.rounds.Goals as goal

pub loop-i-init : goal.loop-i-init
loop-i-init g c = record {
  after = λ b within.
      AreAfterRounds-none c.args.deciphers c.args.round_keys.now _ _ _ _ _ _
      c.round_key_of-second_key.ensures c.round_key_of-first_key.ensures
      c.round_key_of-second_key.result.of_groups c.round_key_of-first_key.result.of_groups
      (c.with_key-next_left.ensures b within) (c.with_key-next_right.ensures b within)
      (c.requires.left b within) (c.requires.right b within);
}

pub xor_substituted-next_left-requires : goal.xor_substituted-next_left-requires
xor_substituted-next_left-requires g c b within = (c.loop-i.invariant.after b within).right_keyed.of_groups

pub xor_substituted-next_right-requires : goal.xor_substituted-next_right-requires
xor_substituted-next_right-requires g c b within =
    let made = c.xor_substituted-next_left.ensures b within in
    rw made.joined (IsOfGroups-xor _ _ (c.loop-i.invariant.after b within).left_keyed.of_groups made.expansion.of_groups)

pub loop-i-preserved : goal.loop-i-preserved
loop-i-preserved g c = record {
  after = λ b within.
      AreAfterRounds-two_more c.args.deciphers c.args.round_keys.now c.loop-i.i _ _ _ _ _ _ _ _ _ _
      (omega arith) (omega arith) (c.loop-i.invariant.after b within)
      (c.xor_substituted-next_left.ensures b within)
      (c.with_key-next_right-in-loop-i.ensures b within) c.change_of.ensures c.change_of.result.of_groups
      (c.xor_substituted-next_right.ensures b within)
      (c.with_key-next_left-in-loop-i.ensures b within) c.change_of-in-loop-i.ensures c.change_of-in-loop-i.result.of_groups;
}

pub returns-clause-halves : goal.returns-clause-halves
returns-clause-halves g c b within =
    after_rounds-without_keys c.args.deciphers c.args.round_keys.now c.loop-i.i _ _ _ _ _ _ _ _ (omega arith) (omega arith)
    c.round_key_of-second_key.ensures c.round_key_of-first_key.ensures (c.loop-i.invariant.after b within)
    (c.with_key.ensures b within) (c.with_key-2.ensures b within)
