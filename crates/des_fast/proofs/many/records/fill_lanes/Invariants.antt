-- The lanes of the records below k are filled.
use Rattle.std.proofs.Common.{◌≡◌, ℕ, ◌+◌, ◌<◌, [], get_or, length}
use Rattle.des.specs.Cbc.{xor_blocks}
use Rattle.des_fast.specs.Records.{start}
use Rattle.des_fast.proofs.many.records.fill_lanes.Given as goal

abbrev pub invariant-records : goal.invariant-records
invariant-records l = record {
  starts : l.start ≡ start l.sizes (l.group.from + l.k);
  count : length l.lanes ≡ 256;
  filled : (m : ℕ) → m < l.k → l.i < get_or l.sizes (l.group.from + m) 0 → get_or l.lanes m []
      ≡ xor_blocks (get_or l.blocks (start l.sizes (l.group.from + m) + l.i) [])
      (get_or l.vectors (l.group.from + m) []);
}
