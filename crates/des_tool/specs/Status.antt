-- The statuses that the program ends with.
use Rattle.std.specs.Prelude.{◌≡◌, ◌⊎◌, ℕ, List, take, Option, Result, Ok, Err}
use Rattle.std.specs.Io.KnownBytes.{Appends}
use Rattle.std.specs.declared.vec.Vec.{Vec}
use Rattle.std.specs.declared.alloc.Global.{Global}
use Rattle.des_tool.specs.declared.command.fault.Fault.{Fault}
use Rattle.des_tool.specs.declared.command.fault.Fault.TheVariants.{Memory}
use Rattle.des_tool.specs.Fault.{line_of}

-- the whole answer was written
abbrev pub answer_written : ℕ
answer_written = 0

-- the arguments have a fault
abbrev pub arguments_at_fault : ℕ
arguments_at_fault = 2

-- a request for memory was refused
abbrev pub memory_refused : ℕ
memory_refused = 3

-- the answer was not written, or not the whole of it. No clause says that it is not if this is
-- the status: std has no word for when a writer fails
abbrev pub answer_not_written : ℕ
answer_not_written = 4

-- the status of a fault
abbrev pub status_of : Fault → ℕ
status_of Memory = memory_refused
status_of _ = arguments_at_fault

-- the status is one of an answer, written or not
abbrev pub IsOfAnswer : ℕ → Type 0
IsOfAnswer status = (status ≡ answer_written) ⊎ (status ≡ answer_not_written)

-- the status is one of a fault
abbrev pub IsOfFault : ℕ → Type 0
IsOfFault status = (status ≡ arguments_at_fault) ⊎ (status ≡ memory_refused)

-- known bytes grow by a prefix of the text, none of it or the whole included, and by nothing else
abbrev pub AppendsPrefix : Option (List ℕ) → Option (List ℕ) → List ℕ → Type 0
AppendsPrefix old new text = (count : ℕ) × Appends old new (take count text)

-- the status is that of the fault, and the error writer took the fault's line or a prefix of it. No
-- status tells how much of the line
abbrev pub IsTold : {E : Type 0} → (E → Option (List ℕ)) → Fault → ℕ → E → E → Type 0
IsTold err_contents fault status err_old err_new =
    (status ≡ status_of fault)
    × AppendsPrefix (err_contents err_old) (err_contents err_new) (line_of fault)

-- what a status says of an answer or a fault that was shown, and of the writers before and after:
-- whether the whole of the answer stands in `out` or else a prefix of it, or which fault there is.
-- The other writer stays as it is
abbrev pub IsShown : {W E : Type 0} → (W → Option (List ℕ)) → (E → Option (List ℕ))
    → Result (Vec ℕ Global) Fault → ℕ → W → W → E → E → Type 0
IsShown out_contents err_contents (Ok text) status out_old out_new err_old err_new =
    IsOfAnswer status
    × (status ≡ answer_written → Appends (out_contents out_old) (out_contents out_new) text.items)
    × AppendsPrefix (out_contents out_old) (out_contents out_new) text.items
    × (err_new ≡ err_old)
IsShown out_contents err_contents (Err fault) status out_old out_new err_old err_new =
    IsTold err_contents fault status err_old err_new × (out_new ≡ out_old)
