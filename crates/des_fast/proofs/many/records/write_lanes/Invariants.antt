-- The blocks of the records below k are written.
use Rattle.std.proofs.Common.{◌≡◌, ◌+◌, length}
use Rattle.des_fast.specs.Records.{start}
use Rattle.des_fast.specs.RecordStates.{AreWritten}
use Rattle.des_fast.proofs.many.records.write_lanes.Given as goal

abbrev pub invariant-records : goal.invariant-records
invariant-records l = record {
  starts : l.start ≡ start l.sizes (l.group.from + l.k);
  in_vectors : length l.vectors ≡ length l.initial.vectors;
  in_blocks : length l.blocks ≡ length l.initial.blocks;
  written : AreWritten l.sizes l.group.from l.k l.i l.lanes l.initial.vectors l.initial.blocks
      l.vectors l.blocks;
}
