-- Whether a key is refused if nothing else is at fault.
use Rattle.std.proofs.Common.{◌≡◌, Option, None, Ok, Err, inl, inr, ap}
use Rattle.des_lines.specs.declared.fault.FaultKind.{FaultKind}
use Rattle.des_lines.specs.declared.fault.FaultKind.TheVariants.{WeakKey}
use Rattle.des_lines.specs.Faults.{FailsOrRefuses}

-- nothing is at fault, and the key is refused
pub refuses : (A R : Type 0) (o : Option FaultKind) (e : FaultKind) → o ≡ None → e ≡ WeakKey → R
    → FailsOrRefuses {A = A} o R (Err e)
refuses A R o e none weak refused = rw none (inl (refused, ap Err weak))

-- nothing is at fault, and the key is not refused
pub accepts : (A R : Type 0) (o : Option FaultKind) (x : A) → o ≡ None → ¬ R → FailsOrRefuses {A = A} o R (Ok x)
accepts A R o x none sound = rw none (inr (sound, tt))
