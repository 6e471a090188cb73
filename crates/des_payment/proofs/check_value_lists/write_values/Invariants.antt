-- The values below k are written.
use Rattle.std.proofs.Common.{◌≡◌, ℕ, ◌<◌, [], get_or, length, take}
use Rattle.des_payment.proofs.check_value_lists.write_values.Given as goal

abbrev pub invariant-values : goal.invariant-values
invariant-values l = record {
  count : length l.values ≡ length l.blocks;
  written : (m : ℕ) → m < l.k → get_or l.values m [] ≡ take 3 (get_or l.blocks m []);
}
