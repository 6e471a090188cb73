-- The blocks of the values before the index stand at the front of the buffer.
use Rattle.std.proofs.Common.{◌≡◌, ◌≤◌, ◌-◌, length, take, sum}
use Rattle.std.specs.List.{flat_map}
use Rattle.des_columns.specs.Forms.{blocks_of}
use Rattle.des_columns.specs.Columns.{pieces}
use Rattle.des_columns.proofs.column.Reader.refill.Given as goal

abbrev pub invariant-values : goal.invariant-values
invariant-values g l = record {
  end : l.count ≤ length l.lengths;
  bytes : l.bytes ≡ sum (take l.count l.lengths);
  blocks : l.blocks ≤ length l.buffer;
  gathered : take l.blocks l.buffer ≡ flat_map (blocks_of l.self.form) (take l.count (pieces l.lengths l.values));
}

abbrev pub decreases-values : goal.decreases-values
decreases-values g l = length l.lengths - l.count
