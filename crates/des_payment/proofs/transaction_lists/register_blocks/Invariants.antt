-- The lanes below k are written.
use Rattle.std.proofs.Common.{◌≡◌, ℕ, ◌*◌, ◌/◌, ◌^◌, ◌<◌, [], get_or, length}
use Rattle.std.specs.Int.{w64, to_be_bytes}
use Rattle.des.specs.Blocks.{part}
use Rattle.des.specs.Cbc.{xor_blocks}
use Rattle.des_payment.specs.Dukpt.{last_bytes}
use Rattle.des_payment.proofs.transaction_lists.register_blocks.Given as goal

abbrev pub invariant-lanes : goal.invariant-lanes
invariant-lanes l = record {
  count : length l.sums ≡ 256;
  written : (m : ℕ) → m < l.k → get_or l.sums m [] ≡ xor_blocks (to_be_bytes w64 (last_bytes (get_or l.serials m []) / 2 ^ l.place * 2 ^ l.place))
      (part 2 (get_or l.keys m []));
}
