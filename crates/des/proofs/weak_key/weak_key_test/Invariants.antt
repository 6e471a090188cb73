use Rattle.std.proofs.Common.{ℕ, ◌<◌, [], get_or, take}
use Rattle.des.specs.Parity.{ContainsAgreeing}
use Rattle.des.specs.WeakKeys.{listed_keys}
use Rattle.des.proofs.weak_key.weak_key_test.Given as goal

-- no part so far agrees with a listed key, and none with a part before it
abbrev pub invariant-loop-i : goal.invariant-loop-i
invariant-loop-i l =
    (k : ℕ) → k < l.i
    → ¬ (ContainsAgreeing listed_keys (get_or l.parts k []))
    × ¬ (ContainsAgreeing (take k l.parts) (get_or l.parts k []))
