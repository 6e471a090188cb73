-- What holds of a result that is `Ok`.
use Rattle.std.proofs.Common.{Result, Ok, Err}
use Rattle.std.specs.Result.{IsOk, OnOk}

pub on-ok : {T E : Type 0} (result : Result T E) (P : Type 0) → IsOk result → OnOk result P → P
on-ok (Ok x) P ok on = on
on-ok (Err e) P ok on = cc ok
