-- The texts before the index are gathered.
use Rattle.std.proofs.Common.{◌≡◌, ◌≤◌, ◌-◌, length, map, take, sum}
use Rattle.std.specs.List.{sum_by}
use Rattle.des_columns.specs.Columns.{pieces}
use Rattle.des_columns.specs.EncryptedBytes.{joined}
use Rattle.des_columns.specs.Waiting.{AreInTurn}
use Rattle.des_columns.specs.Writings.{padded_by, size_in_blocks, value_size}
use Rattle.des_columns.proofs.writing.gather.Given as goal

abbrev pub invariant-texts : goal.invariant-texts
invariant-texts l = record {
  end : l.count ≤ length l.lengths;
  count : l.count ≤ length l.sizes;
  bytes : l.bytes ≡ sum (take l.count l.lengths);
  blocks : l.blocks ≤ length l.buffer;
  span : l.span ≡ sum_by (value_size l.form) (take l.count l.lengths);
  sizes : take l.count l.sizes ≡ map (size_in_blocks l.form) (take l.count (pieces l.lengths l.texts));
  whole : l.blocks ≡ sum (take l.count l.sizes);
  padded : AreInTurn (size_in_blocks l.form) (λ text blocks. joined blocks ≡ padded_by l.form text)
      (take l.count (pieces l.lengths l.texts)) (take l.blocks l.buffer);
}

abbrev pub decreases-texts : goal.decreases-texts
decreases-texts l = length l.lengths - l.count
