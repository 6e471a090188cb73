use Rattle.std.proofs.Common.{◌≡◌, ◌+◌, ◌-◌, ◌≤◌, ◌++◌, length, map, take}
use Rattle.std.specs.List.{filter}
use Rattle.des_payment.specs.CardVerification.{is_decimal, is_letter}
use Rattle.des_payment.proofs.FirstDecimals.{IsWritten}
use Rattle.des_payment.proofs.decimals.first_decimals.Given as goal

-- of the digits before the index, those below ten are written, as many as fit
abbrev pub invariant-loop-digit : goal.invariant-loop-digit
invariant-loop-digit g l = record {
  is_written : IsWritten l.count l.value (filter is_decimal (take l.digit-index l.digits));
  long : length l.value ≡ g.row.N;
  few : l.count ≤ l.digit-index;
}

-- and then the others, less ten
abbrev pub invariant-loop-digit-2 : goal.invariant-loop-digit-2
invariant-loop-digit-2 g l = record {
  is_written : IsWritten l.count l.value
      (filter is_decimal l.digits ++ map (λ digit. digit - 10) (filter is_letter (take l.digit-index l.digits)));
  long : length l.value ≡ g.row.N;
  few : l.count ≤ length l.digits + l.digit-index;
}
