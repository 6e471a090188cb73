-- The lanes below k are written.
use Rattle.std.proofs.Common.{◌≡◌, ℕ, ◌<◌, ◌==◌, ◌++◌, if◌then◌else◌, [], get_or, length}
use Rattle.std.specs.Int.{bit_at}
use Rattle.des_payment.specs.Dukpt.{counter_of}
use Rattle.des_payment.proofs.transaction_lists.keys_after.Given as goal

abbrev pub invariant-lanes : goal.invariant-lanes
invariant-lanes l = record {
  count : length l.after ≡ 256;
  written : (m : ℕ) → m < l.k → get_or l.after m [] ≡ (if bit_at (counter_of (get_or l.serials m [])) l.place == 1
      then get_or l.left m [] ++ get_or l.right m [] else get_or l.keys m []);
}
