-- The places below k are told.
use Rattle.std.proofs.Common.{◌≡◌, ◌↔◌, ℕ, ◌<◌, IsTrue, false, [], get_or, length}
use Rattle.des_mac.proofs.many.verify_each.Given as goal

abbrev pub invariant-loop-k : goal.invariant-loop-k
invariant-loop-k l = record {
  count : length l.right ≡ length l.initial.right;
  told : (m : ℕ) → m < l.k → IsTrue (get_or l.right m false) ↔ (get_or l.tags m [] ≡ get_or l.macs m []);
}
