-- The values of the texts before the index are written.
use Rattle.std.proofs.Common.{◌≡◌, ◌+◌, take, sum}
use Rattle.std.specs.List.{sum_by}
use Rattle.des_columns.specs.Columns.{pieces}
use Rattle.des_columns.specs.Jasypt.{IsWritten, salted, value_size}
use Rattle.des_columns.specs.Writings.{IsColumnWritten}
use Rattle.des_columns.proofs.jasypt.encrypt_values.Given as goal

abbrev pub invariant-texts : goal.invariant-texts
invariant-texts l = record {
  from : l.from ≡ sum (take l.k l.lengths);
  start : l.start ≡ sum_by (λ size. value_size (8 + size)) (take l.k l.lengths);
  written : IsColumnWritten value_size (IsWritten l.by l.iterations l.password)
      (take l.k (salted l.salts (pieces l.lengths l.texts))) (take l.start l.values);
}
