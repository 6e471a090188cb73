-- The lanes below k are written.
use Rattle.std.proofs.Common.{◌≡◌, ℕ, ◌<◌, ◌++◌, [], get_or, length}
use Rattle.des_payment.proofs.transaction_lists.join_halves.Given as goal

abbrev pub invariant-lanes : goal.invariant-lanes
invariant-lanes l = record {
  count : length l.keys ≡ length l.initial.keys;
  written : (m : ℕ) → m < l.k → get_or l.keys m [] ≡ get_or l.left m [] ++ get_or l.right m [];
}
