-- The lanes below k are written.
use Rattle.std.proofs.Common.{◌≡◌, ℕ, ◌<◌, [], get_or, length}
use Rattle.des_payment.specs.Dukpt.{masked, derivation_mask}
use Rattle.des_payment.proofs.transaction_lists.masked_keys.Given as goal

abbrev pub invariant-lanes : goal.invariant-lanes
invariant-lanes l = record {
  count : length l.masked_keys ≡ 256;
  written : (m : ℕ) → m < l.k → get_or l.masked_keys m [] ≡ masked derivation_mask (get_or l.keys m []);
}
