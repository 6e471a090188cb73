use Rattle.std.proofs.Common.{◌≡◌, take, drop}
use Rattle.std.specs.List.{list_all}
use Rattle.des_payment.specs.PinBlocks.{is_fill}
use Rattle.des_payment.proofs.fields.are_fill_after.Given as goal

-- whether those after the first digits that stand before the index are fill digits
abbrev pub invariant-loop-k : goal.invariant-loop-k
invariant-loop-k l = l.all ≡ list_all (is_fill l.least) (drop l.count (take l.k l.digits))
