-- The values before the index are read, and some of the others wait.
use Rattle.std.proofs.Common.{◌≡◌, take, drop, sum}
use Rattle.des_columns.specs.Columns.{AreDecrypted, ReadsAs, pieces}
use Rattle.des_columns.specs.Readings.{IsColumnRead}
use Rattle.des_columns.proofs.column.Reader.read.Given as goal

abbrev pub invariant-values : goal.invariant-values
invariant-values g l = record {
  start : l.start ≡ sum (take l.k l.lengths);
  waiting : AreDecrypted l.self.form (g.K.ValueKeys.decryption l.self.keys) (drop l.k (pieces l.lengths l.values)) l.waiting l.buffer;
  read : IsColumnRead (ReadsAs l.self.form l.self.mode (g.K.ValueKeys.has_key l.self.keys) (g.K.ValueKeys.decryption l.self.keys))
      (take l.k (pieces l.lengths l.values)) (take l.start l.texts) (take l.k l.text_lengths) (take l.k l.statuses);
}
