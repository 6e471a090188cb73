-- The halves below k are written.
use Rattle.std.proofs.Common.{◌≡◌, ℕ, ◌<◌, [], get_or, length}
use Rattle.des.specs.Blocks.{part}
use Rattle.des_context.proofs.mac_lists.key_halves.Given as goal

abbrev pub invariant-keys : goal.invariant-keys
invariant-keys l = record {
  count : length l.halves ≡ 256;
  written : (m : ℕ) → m < l.k → get_or l.halves m [] ≡ part l.number (get_or l.keys m []);
}
