use Rattle.std.proofs.Common.{ap, ◌∙◌, add-one, arith}
use Rattle.des_passwords.specs.BytesToKey.{repeated}
use Rattle.des_passwords.proofs.repeated.repeat.Goals as goal

pub steps-init : goal.steps-init
unfolding repeated
steps-init g c = record {
  count = c.requires.digest;
  begun = omega arith;
  within = omega (arith, c.requires.iterations);
  repeated = λ m is. is;
}

-- once more
pub steps-preserved : goal.steps-preserved
unfolding repeated
steps-preserved g c = record {
  count = c.hash_again.ensures.length;
  begun = omega arith;
  within = omega (arith, c.steps-test.true);
  repeated = λ m is. rw add-one (c.hash_again.ensures.digest ∙ ap g.H.HashFunction.digest (c.steps.invariant.repeated m is));
}
