-- The line of a verification, by what the verification promises: its faults, and which PINs are right and wrong.
use Rattle.std.proofs.Common.{◌≡◌, ◌≢◌, ◌↔◌, ℕ, true, false, Option, Some, None, Result, Ok, Err, IsOk, IfOk, inl, inr, refl, ap, ◌∙◌, subst}
use Rattle.std.specs.Option.{option_map}
use Rattle.std.specs.Result.{result_err}
use Rattle.std.specs.declared.vec.Vec.{Vec}
use Rattle.std.specs.declared.alloc.Global.{Global}
use Rattle.des_payment.specs.declared.verification_error.VerificationError.{VerificationError}
use Rattle.des_payment.specs.declared.verification_error.VerificationError.TheVariants.{AccountLength, AccountDigit, KeyIndex, KeyLength, PinLength, TableLength, TableDigit, TableVariety, WrongPin}
use Rattle.des_lines.specs.declared.fault.FaultKind.{FaultKind}
use Rattle.des_lines.specs.declared.fault.FaultKind.TheVariants.{Verification as VerificationFault}
use Rattle.des_lines.specs.Faults.{FailsBy}
use Rattle.des_lines.specs.PinLines.{TellsOutcome, IsVerdictLine}

-- another fault than that of a wrong PIN is told as it is
tells_fault : (fault : VerificationError) (result : Result (Vec ℕ Global) FaultKind) → (fault ≢ WrongPin)
    → TellsOutcome (Err fault) result → result ≡ Err (VerificationFault fault)
tells_fault AccountLength result other told = told
tells_fault AccountDigit result other told = told
tells_fault KeyIndex result other told = told
tells_fault KeyLength result other told = told
tells_fault PinLength result other told = told
tells_fault TableLength result other told = told
tells_fault TableDigit result other told = told
tells_fault TableVariety result other told = told
tells_fault WrongPin result other told = absurd (other refl)

-- the fault that there is
abbrev fault_in : Option VerificationError → VerificationError
fault_in None = WrongPin
fault_in (Some fault) = fault

-- what a verification promises
pub record Verifies (Holds : Type 0) (fault : Option VerificationError)
    (outcome : Result (Unit {0}) VerificationError) : Type 0 where
  pub first : (fault ≢ None) → result_err outcome ≡ fault
  pub right : IsOk outcome ↔ ((fault ≡ None) × Holds)
  pub wrong : (outcome ≡ Err WrongPin) ↔ ((fault ≡ None) × (¬ Holds))

-- without a fault, an error is that of a wrong PIN
not_right : (Holds : Type 0) (error : VerificationError) → Verifies Holds None (Err error) → ¬ Holds
not_right Holds error verifies holds = let bad : false ≡ true = verifies.right.1 (refl, holds) in cc bad

is_wrong : (Holds : Type 0) (error : VerificationError) (result : Result (Vec ℕ Global) FaultKind)
    → Verifies Holds None (Err error) → TellsOutcome (Err error) result → TellsOutcome (Err WrongPin) result
is_wrong Holds error result verifies told =
    subst (λ (outcome : Result (Unit {0}) VerificationError). TellsOutcome outcome result)
    (verifies.wrong.1 (refl, not_right Holds error verifies)) told

-- a fault is told as it is
is_fault : (Holds : Type 0) (fault : VerificationError) (outcome : Result (Unit {0}) VerificationError)
    (result : Result (Vec ℕ Global) FaultKind) → Verifies Holds (Some fault) outcome → TellsOutcome outcome result
    → result ≡ Err (VerificationFault fault)
is_fault Holds fault (Ok done) result verifies told =
    let bad : None ≡ Some fault = verifies.first (λ same. cc same) in cc bad
is_fault Holds fault (Err error) result verifies told =
    let same : Some error ≡ Some fault = verifies.first (λ none. cc none) in
    let other : error ≢ WrongPin = λ is. let bad : Some fault ≡ None = (verifies.wrong.0 (ap Err is)).0 in cc bad in
    tells_fault error result other told
    ∙ ap (λ (found : Option VerificationError). Err (VerificationFault (fault_in found))) same

-- the line fails by the fault, if there is one
pub verdict-fails : (Holds : Type 0) (fault : Option VerificationError) (outcome : Result (Unit {0}) VerificationError)
    (result : Result (Vec ℕ Global) FaultKind) → Verifies Holds fault outcome → TellsOutcome outcome result
    → FailsBy (option_map VerificationFault fault) result
verdict-fails Holds None (Ok done) result verifies told = told.0
verdict-fails Holds None (Err error) result verifies told = (is_wrong Holds error result verifies told).0
verdict-fails Holds (Some fault) outcome result verifies told = is_fault Holds fault outcome result verifies told

-- at success one fact gives another
ok_weaker : (P Q : Vec ℕ Global → Type 0) (result : Result (Vec ℕ Global) FaultKind)
    → ((line : Vec ℕ Global) → P line → Q line)
    → IfOk result P → IfOk result Q
ok_weaker P Q (Ok line) weaker holds = weaker line holds
ok_weaker P Q (Err fault) weaker holds = tt

-- the line says whether the PIN is right
pub verdict-says : (Holds : Type 0) (fault : Option VerificationError) (outcome : Result (Unit {0}) VerificationError)
    (result : Result (Vec ℕ Global) FaultKind) → Verifies Holds fault outcome → TellsOutcome outcome result
    → IfOk result (λ line. IsVerdictLine Holds line.items)
verdict-says Holds None (Ok done) result verifies told =
    let holds : Holds = (verifies.right.0 refl).1 in
    ok_weaker _ _ result (λ line same. inl (holds, same)) told.1
verdict-says Holds None (Err error) result verifies told =
    let wrong = not_right Holds error verifies in
    ok_weaker _ _ result (λ line same. inr (wrong, same)) (is_wrong Holds error result verifies told).1
verdict-says Holds (Some fault) outcome result verifies told =
    let failed = is_fault Holds fault outcome result verifies told in
    rw failed tt
