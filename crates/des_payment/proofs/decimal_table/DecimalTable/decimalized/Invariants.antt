use Rattle.std.proofs.Common.{◌≡◌, ◌++◌, map, take, drop, slice_index}
use Rattle.des_payment.proofs.decimal_table.DecimalTable.decimalized.Given as goal

-- the digits before the index are those of the table, and those from it on are as they were
abbrev pub invariant-loop-digit : goal.invariant-loop-digit
invariant-loop-digit l =
    l.digit-items ≡ map (slice_index l.self-inside.digits) (take l.digit-index l.initial.digit-items)
    ++ drop l.digit-index l.initial.digit-items
