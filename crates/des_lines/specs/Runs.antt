-- A run of a calculation: what the output and the error writer take, and the status that the program ends with.
use Rattle.std.specs.Prelude.{◌≡◌, ◌↔◌, ◌&&◌, ℕ, Bool, false, not, List, codes, IsTrue, IfOk, Option, Result, Ok, Err}
use Rattle.std.specs.declared.vec.Vec.{Vec}
use Rattle.std.specs.declared.alloc.Global.{Global}
use Rattle.des_lines.specs.declared.fault.Fault.{Fault}
use Rattle.des_lines.specs.declared.fault.FaultKind.{FaultKind}
use Rattle.des_lines.specs.declared.fault.FaultKind.TheVariants.{CheckDigit}
use Rattle.des_lines.specs.declared.requests.Calculation.{Calculation}
use Rattle.des_lines.specs.declared.requests.Calculation.TheVariants.{Pin, Weak}
use Rattle.des_lines.specs.declared.requests.CalculationRequest.{CalculationRequest}
use Rattle.des_lines.specs.declared.requests.Inputs.{Inputs}
use Rattle.des_lines.specs.Tags.{status_after}
use Rattle.des_lines.specs.CheckDigits.{lacks_check_digit}
use Rattle.des_lines.specs.Lines.{IsLine, FailsAs}
use Rattle.des_lines.specs.Names.{IsSubject}
use Rattle.des_lines.specs.PinLines.{is_question}
use Rattle.des_lines.specs.Written.{Saying, AppendsLinePrefix, IsShown}

-- the fault of a kind, with what it is about
abbrev pub IsFaultOf : CalculationRequest → FaultKind → Fault → Type 0
IsFaultOf request kind fault = (fault.kind ≡ kind) × IsSubject request fault.about.now

-- the account number is refused, or else the calculation fails by its first fault, if it has one
abbrev pub FailsAsAsked : CalculationRequest → Inputs → Result (Vec ℕ Global) FaultKind → Type 0
FailsAsAsked request inputs result =
    (IsTrue (request.refuses_wrong_check_digit && lacks_check_digit inputs.account.now) → result ≡ Err CheckDigit)
    × (request.refuses_wrong_check_digit && lacks_check_digit inputs.account.now ≡ false
    → FailsAs request.calculation inputs result)

-- a result with what its fault is about
abbrev pub IsAbout : CalculationRequest → Result (Vec ℕ Global) FaultKind → Result (Vec ℕ Global) Fault → Type 0
IsAbout request (Ok line) outcome = outcome ≡ Ok line
IsAbout request (Err kind) outcome = (fault : Fault) × (IsFaultOf request kind fault × (outcome ≡ Err fault))

-- the line, or the fault
pub record IsOutcome (request : CalculationRequest) (inputs : Inputs) (outcome : Result (Vec ℕ Global) Fault)
    : Type 0 where
  pub result : Result (Vec ℕ Global) FaultKind
  pub fault : FailsAsAsked request inputs result
  pub line : IfOk result (λ line. IsLine request.calculation inputs line.items)
  pub about : IsAbout request result outcome

-- the last digit of the account number is not its check digit, and is not refused
abbrev pub needs_notice : CalculationRequest → List ℕ → Bool
needs_notice request account = not request.refuses_wrong_check_digit && lacks_check_digit account

-- the error writer then took the line that tells of it, or a prefix of that; else it stays as it is
abbrev pub IsNoticed : {E : Type 0} → Saying → (E → Option (List ℕ)) → CalculationRequest → List ℕ → E → E → Type 0
IsNoticed Says err_contents request account err_old err_new =
    (IsTrue (needs_notice request account)
    → (about : List ℕ)
    × (IsSubject request about × AppendsLinePrefix Says CheckDigit about (err_contents err_old) (err_contents err_new)))
    × (needs_notice request account ≡ false → err_new ≡ err_old)

-- the answer is no: the line says that the PIN is wrong, if that is asked, or that the key is weak
abbrev pub IsNo : Calculation → Result (Vec ℕ Global) Fault → Type 0
IsNo Weak (Ok line) = line.items ≡ codes "weak\n"
IsNo (Pin calculation) (Ok line) = IsTrue (is_question calculation) × (line.items ≡ codes "wrong\n")
IsNo calculation outcome = ⊥

-- a run of a calculation by what was read for it: the check digit was told of if that is due, and then the line or
-- the fault was shown; the status says which, and whether the answer is no
pub record IsRun {W E : Type 0} (Says : Saying) (out_contents : W → Option (List ℕ))
    (err_contents : E → Option (List ℕ)) (request : CalculationRequest) (inputs : Inputs) (status : ℕ)
    (out_old out_new : W) (err_old err_new : E) : Type 0 where
  pub outcome : Result (Vec ℕ Global) Fault
  pub answers : IsOutcome request inputs outcome
  pub noticed : E
  pub notice : IsNoticed Says err_contents request inputs.account.now err_old noticed
  pub written : ℕ
  pub shown : IsShown Says out_contents err_contents outcome written out_old out_new noticed err_new
  pub no : Bool
  pub means : IsTrue no ↔ IsNo request.calculation outcome
  pub ended : status ≡ status_after written no
