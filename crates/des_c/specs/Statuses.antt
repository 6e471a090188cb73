-- The status of a call that tells its first fault.
use Rattle.std.specs.Prelude.{ℤ, Option, Some, None}
use Rattle.des_context.specs.declared.status.TheConstants.{OK}

-- by the statuses of faults, and the fault, if there is one
abbrev pub status_after : {E : Type 0} → (E → ℤ) → Option E → ℤ
status_after status None = OK
status_after status (Some fault) = status fault

-- the same, and another status if there is none
abbrev pub status_or : {E : Type 0} → (E → ℤ) → Option E → ℤ → ℤ
status_or status None other = other
status_or status (Some fault) other = status fault
