-- The values of the texts before the index are written, and some of the others wait.
use Rattle.std.proofs.Common.{◌≡◌, take, drop, sum}
use Rattle.std.specs.List.{sum_by}
use Rattle.des_columns.specs.Columns.{pieces}
use Rattle.des_columns.specs.Writings.{AreEnciphered, IsColumnWritten, IsWriting, value_size}
use Rattle.des_columns.proofs.writing.write_values.Given as goal

abbrev pub invariant-texts : goal.invariant-texts
invariant-texts g l = record {
  from : l.from ≡ sum (take l.k l.lengths);
  start : l.start ≡ sum_by (value_size l.form) (take l.k l.lengths);
  waiting : AreEnciphered l.form l.fn.mode (g.C.KeyInit.is_made_from l.writer.cipher) g.C.Relating.relation
      (drop l.k (pieces l.lengths l.texts)) l.waiting l.buffer;
  written : IsColumnWritten (value_size l.form)
      (IsWriting l.form l.number l.fn.mode (g.C.Relating.relation (g.C.Key.KeyBytes.bytes_of l.key)))
      (take l.k (pieces l.lengths l.texts)) (take l.start l.values);
}
