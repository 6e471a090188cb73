use Rattle.std.proofs.Common.{◌≡◌, ◌↔◌, ℕ, ◌<◌, get_or, IsTrue}
use Rattle.des_mac.proofs.mac.are_equal.Given as goal

-- whether the bytes before the index are the same
abbrev pub invariant-loop-i : goal.invariant-loop-i
invariant-loop-i l = IsTrue l.same ↔ ((k : ℕ) → k < l.i → get_or l.bytes k 0 ≡ get_or l.others k 0)
