use Rattle.std.proofs.Common.{◌≡◌, ◌≤◌, ℕ, List, length}
use Rattle.des_passwords.specs.BytesToKey.{repeated}
use Rattle.des_passwords.proofs.repeated.repeat.Given as goal

-- the hash function was taken as often as the counter says
abbrev pub invariant-steps : goal.invariant-steps
invariant-steps g l = record {
  count : length l.digest ≡ g.H.HashFunction.SIZE;
  begun : 1 ≤ l.counter;
  within : l.counter ≤ l.iterations;
  repeated : (m : List ℕ) → l.fn.digest ≡ g.H.HashFunction.digest m
      → l.digest ≡ repeated g.H.HashFunction.digest l.counter m;
}
