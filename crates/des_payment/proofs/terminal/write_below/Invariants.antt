-- The registers below k are written.
use Rattle.std.proofs.Common.{◌≡◌, ℕ, ◌^◌, ◌<◌, ◌≤◌, bit_or, length}
use Rattle.des_payment.specs.Dukpt.{next_key}
use Rattle.des_fast.specs.Transposition.{block_at}
use Rattle.des_payment.proofs.terminal.write_below.Given as goal

abbrev pub invariant-places : goal.invariant-places
invariant-places l = record {
  count : length l.keys ≡ 21;
  written : (m : ℕ) → m < l.k → block_at l.keys m ≡ next_key (bit_or l.last (2 ^ m)) l.key;
  kept : (m : ℕ) → l.k ≤ m → block_at l.keys m ≡ block_at l.initial.keys m;
}
