-- What holds of a call that is accepted.
use Rattle.std.proofs.Common.{Result, Ok, Err, IsOk, OnOk, sym}
use Rattle.std.proofs.lemmas.Bool.{true≢false}

pub from_ok : {T E P : Type 0} (r : Result T E) → IsOk r → OnOk r P → P
from_ok (Ok x) ok holds = holds
from_ok (Err e) ok holds = absurd (true≢false (sym ok))
