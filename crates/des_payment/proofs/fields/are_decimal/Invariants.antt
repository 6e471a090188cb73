use Rattle.std.proofs.Common.{◌≡◌, take, nat_lt}
use Rattle.std.specs.List.{list_all}
use Rattle.des_payment.proofs.fields.are_decimal.Given as goal

-- whether those of the first digits that stand before the index are digits of a PIN
abbrev pub invariant-loop-k : goal.invariant-loop-k
invariant-loop-k l = l.all ≡ list_all (λ digit. nat_lt digit 10) (take l.count (take l.k l.digits))
