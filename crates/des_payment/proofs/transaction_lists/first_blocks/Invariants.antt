-- The lanes below k are written.
use Rattle.std.proofs.Common.{◌≡◌, ℕ, ◌<◌, [], get_or, length}
use Rattle.des_payment.specs.Dukpt.{first_bytes}
use Rattle.des_payment.proofs.transaction_lists.first_blocks.Given as goal

abbrev pub invariant-lanes : goal.invariant-lanes
invariant-lanes l = record {
  count : length l.first ≡ 256;
  written : (m : ℕ) → m < l.k → get_or l.first m [] ≡ first_bytes (get_or l.serials m []);
}
