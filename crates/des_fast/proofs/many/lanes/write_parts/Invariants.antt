-- The parts of the keys below k are written.
use Rattle.std.proofs.Common.{◌≡◌, ℕ, ◌<◌, [], get_or, map, length}
use Rattle.des.specs.Blocks.{part}
use Rattle.des_fast.proofs.many.lanes.write_parts.Given as goal

abbrev pub invariant-keys : goal.invariant-keys
invariant-keys g l = record {
  count : length l.parts ≡ 256;
  written : (m : ℕ) → m < l.k → get_or l.parts m [] ≡ part l.number (get_or (map g.K.KeyBytes.bytes_of l.keys) m []);
}
