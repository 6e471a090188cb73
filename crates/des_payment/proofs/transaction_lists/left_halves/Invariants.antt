-- The lanes below k are written.
use Rattle.std.proofs.Common.{◌≡◌, ℕ, ◌<◌, [], get_or, length}
use Rattle.des.specs.Blocks.{part}
use Rattle.des_payment.proofs.transaction_lists.left_halves.Given as goal

abbrev pub invariant-lanes : goal.invariant-lanes
invariant-lanes l = record {
  count : length l.halves ≡ 256;
  written : (m : ℕ) → m < l.k → get_or l.halves m [] ≡ part 1 (get_or l.keys m []);
}
