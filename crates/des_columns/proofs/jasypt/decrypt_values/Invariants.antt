-- The values before the index are read.
use Rattle.std.proofs.Common.{◌≡◌, take, sum}
use Rattle.des_columns.specs.Columns.{pieces}
use Rattle.des_columns.specs.Jasypt.{Reads}
use Rattle.des_columns.specs.Readings.{IsColumnRead}
use Rattle.des_columns.proofs.jasypt.decrypt_values.Given as goal

abbrev pub invariant-values : goal.invariant-values
invariant-values l = record {
  start : l.start ≡ sum (take l.k l.lengths);
  read : IsColumnRead (Reads l.by l.iterations l.password) (take l.k (pieces l.lengths l.values)) (take l.start l.texts)
      (take l.k l.text_lengths) (take l.k l.statuses);
}
