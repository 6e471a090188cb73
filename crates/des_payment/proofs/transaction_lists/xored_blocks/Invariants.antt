-- The lanes below k are written.
use Rattle.std.proofs.Common.{◌≡◌, ℕ, ◌<◌, [], get_or, length}
use Rattle.des.specs.Blocks.{part}
use Rattle.des.specs.Cbc.{xor_blocks}
use Rattle.des_payment.proofs.transaction_lists.xored_blocks.Given as goal

abbrev pub invariant-lanes : goal.invariant-lanes
invariant-lanes l = record {
  count : length l.sums ≡ 256;
  written : (m : ℕ) → m < l.k → get_or l.sums m [] ≡ xor_blocks (get_or l.blocks m []) (part 2 (get_or l.keys m []));
}
