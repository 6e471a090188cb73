-- What the program writes of a result or a fault, and the status that it ends with: 0 only if
-- the whole result was written, else that of the fault.
use Rattle.std.specs.Prelude.{◌≡◌, ◌⊎◌, ℕ, List, codes, take, Option, Result, Ok, Err}
use Rattle.std.specs.Io.KnownBytes.{Appends}
use Rattle.std.specs.declared.vec.Vec.{Vec}
use Rattle.std.specs.declared.alloc.Global.{Global}
use Rattle.des_lines.specs.declared.fault.Reason.{Reason}
use Rattle.des_lines.specs.declared.fault.FaultKind.{FaultKind}
use Rattle.des_lines.specs.declared.fault.FaultKind.TheVariants.{Write}
use Rattle.des_lines.specs.declared.fault.Fault.{Fault}
use Rattle.des_lines.specs.Faults.{status_of, line_with}

-- known bytes grow by a prefix of the text, none of it or the whole included, and by nothing else
abbrev pub AppendsPrefix : Option (List ℕ) → Option (List ℕ) → List ℕ → Type 0
AppendsPrefix old new text = (count : ℕ) × Appends old new (take count text)

-- what may be said of each fault: by which name, and by which sentence
abbrev pub Saying : Type 1
Saying = FaultKind → List ℕ → List ℕ → Type 0

-- the line of a fault: a name of it, what it is about, and a sentence of it
abbrev pub IsLineOf : Saying → FaultKind → List ℕ → List ℕ → Type 0
IsLineOf Says kind about line =
    (name : List ℕ) × ((sentence : List ℕ) × (Says kind name sentence × (line ≡ line_with name about sentence)))

-- known bytes grow by the line of a fault, or by a prefix of it
abbrev pub AppendsLine : Saying → FaultKind → List ℕ → Option (List ℕ) → Option (List ℕ) → Type 0
AppendsLine Says kind about old new = (line : List ℕ) × (IsLineOf Says kind about line × Appends old new line)

abbrev pub AppendsLinePrefix : Saying → FaultKind → List ℕ → Option (List ℕ) → Option (List ℕ) → Type 0
AppendsLinePrefix Says kind about old new =
    (line : List ℕ) × (IsLineOf Says kind about line × AppendsPrefix old new line)

-- the status is that of the fault, and the error writer took the fault's line or a prefix of it. No
-- status tells how much of the line
abbrev pub IsTold : {E : Type 0} → Saying → (E → Option (List ℕ)) → FaultKind → (about : List ℕ) → ℕ → E → E → Type 0
IsTold Says err_contents kind about status err_old err_new =
    (status ≡ status_of kind)
    × AppendsLinePrefix Says kind about (err_contents err_old) (err_contents err_new)

-- what a status says of a result or a fault that was shown, and of the writers before and after: the
-- whole of the result stands in `out`, or else a prefix of it, and the fault of that was told; or
-- which fault there is. A writer that nothing is said of stays as it is
abbrev pub IsShown : {W E : Type 0} → Saying → (W → Option (List ℕ)) → (E → Option (List ℕ))
    → Result (Vec ℕ Global) Fault → ℕ → W → W → E → E → Type 0
IsShown Says out_contents err_contents (Ok text) status out_old out_new err_old err_new =
    ((status ≡ 0) × Appends (out_contents out_old) (out_contents out_new) text.items × (err_new ≡ err_old))
    ⊎ (AppendsPrefix (out_contents out_old) (out_contents out_new) text.items
    × ((reason : Reason) × IsTold Says err_contents (Write reason) (codes "standard output") status err_old err_new))
IsShown Says out_contents err_contents (Err fault) status out_old out_new err_old err_new =
    IsTold Says err_contents fault.kind fault.about.now status err_old err_new × (out_new ≡ out_old)
