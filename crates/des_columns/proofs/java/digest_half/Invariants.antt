use Rattle.std.proofs.Common.{◌≡◌, ◌≤◌}
use Rattle.des_columns.specs.JavaTripleDes.{digested}
use Rattle.des_columns.proofs.java.digest_half.Given as goal

-- as many digests were taken as the counter says
abbrev pub invariant-steps : goal.invariant-steps
invariant-steps l = record {
  begun : 1 ≤ l.counter;
  within : l.counter ≤ l.iterations;
  digested : l.digest ≡ digested l.counter l.password l.half;
}
