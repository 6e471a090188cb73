use Rattle.std.proofs.Common.{◌≡◌, ℕ, List, [], ◌++◌, ◌-◌, ◌≤◌, length}
use Rattle.std.specs.Int.{w32, to_be_bytes}
use Rattle.des_passwords.specs.Hmac.{hmac, IsHmacOf}
use Rattle.des_passwords.specs.Pbkdf2.{u, xor_of}
use Rattle.des_passwords.proofs.pbkdf2.write_block.Given as goal

-- `last` is the U of the turn, and the answer the xor of those up to it
abbrev pub invariant-steps : goal.invariant-steps
invariant-steps g l =
    let holds = g.H.HashFunction.holds in let digest = g.H.HashFunction.digest in
    record {
      begun : 1 ≤ l.counter;
      within : l.counter - 1 ≤ l.iterations - 1;
      last_length : length l.last ≡ g.H.HashFunction.SIZE;
      answer_length : length l.answer ≡ g.H.HashFunction.SIZE;
      last : (key : List ℕ) → IsHmacOf holds digest l.prf key []
          → l.last ≡ u (hmac digest key) (l.salt ++ to_be_bytes w32 l.index) (l.counter - 1);
      answer : (key : List ℕ) → IsHmacOf holds digest l.prf key []
          → l.answer ≡ xor_of (hmac digest key) (l.salt ++ to_be_bytes w32 l.index) (l.counter - 1);
    }
