-- What is left of the total after the values of the texts before the index.
use Rattle.std.proofs.Common.{◌≡◌, ◌+◌, take}
use Rattle.std.specs.List.{sum_by}
use Rattle.des_columns.specs.Jasypt.{value_size}
use Rattle.des_columns.proofs.jasypt.values_add_up_to.Given as goal

abbrev pub invariant-texts : goal.invariant-texts
invariant-texts l = l.left + sum_by (λ size. value_size (8 + size)) (take l.k l.lengths) ≡ l.total
