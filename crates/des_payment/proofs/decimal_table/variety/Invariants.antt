use Rattle.std.proofs.Common.{◌≡◌, ◌≤◌, ◌==◌, [], ◌∷◌, length, take}
use Rattle.std.specs.List.{filter, list_any}
use Rattle.des_payment.proofs.decimal_table.variety.Given as goal

-- how many of the digits before the index the table has
abbrev pub invariant-loop-digit : goal.invariant-loop-digit
invariant-loop-digit l = record {
  counted : l.count ≡ length
      (filter (λ digit. list_any (λ other. other == digit) l.table)
      (take l.digit-index (0 ∷ 1 ∷ 2 ∷ 3 ∷ 4 ∷ 5 ∷ 6 ∷ 7 ∷ 8 ∷ 9 ∷ [])));
  few : l.count ≤ l.digit-index;
}
