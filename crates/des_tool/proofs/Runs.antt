-- A run, by the answer that was shown.
use Rattle.std.proofs.Common.{◌≡◌, ℕ, List, Option, Some, None, Result, Ok, Err, IfSome, IfNone, IfOk, inl, inr, refl, subst, arith}
use Rattle.std.specs.declared.vec.Vec.{Vec}
use Rattle.std.specs.declared.alloc.Global.{Global}
use Rattle.des_tool.specs.declared.command.fault.Fault.{Fault}
use Rattle.des_tool.specs.declared.command.fault.Fault.TheVariants.{Usage, KeyLength, KeyText, BlockLength, BlockText, Memory}
use Rattle.des_tool.specs.Fault.{FailsBy}
use Rattle.des_tool.specs.Status.{status_of, IsOfAnswer, IsOfFault, IsTold, IsShown}
use Rattle.des_tool.specs.Run.{fault_in, IsTheAnswer, IsRun}

-- the status of a fault is one of a fault
IsOfFault-status_of : (fault : Fault) → IsOfFault (status_of fault)
IsOfFault-status_of Usage = inl refl
IsOfFault-status_of KeyLength = inl refl
IsOfFault-status_of KeyText = inl refl
IsOfFault-status_of BlockLength = inl refl
IsOfFault-status_of BlockText = inl refl
IsOfFault-status_of Memory = inr refl

-- no status is one of an answer and of a fault
one_kind : (status : ℕ) → IsOfAnswer status → IsOfFault status → ⊥
one_kind status (inl answer) (inl fault) = omega arith
one_kind status (inl answer) (inr fault) = omega arith
one_kind status (inr answer) (inl fault) = omega arith
one_kind status (inr answer) (inr fault) = omega arith

-- what is told of the fault by which the arguments fail is told of their first one
told-first : {E : Type 0} (told : E → Option (List ℕ)) (given : Option Fault) (fault : Fault) (status : ℕ) (old new : E)
    → FailsBy {A = Vec ℕ Global} given (Err fault) → IsTold told fault status old new
    → IfSome given (λ first. IsTold told first status old new)
told-first told (Some first) fault status old new same shown =
    let one : fault ≡ first = cc same in
    subst (λ (f : Fault). IsTold told f status old new) one shown
told-first told None fault status old new same shown = tt

-- and if they have none, of `Memory`
told-memory : {E : Type 0} (told : E → Option (List ℕ)) (given : Option Fault) (fault : Fault) (status : ℕ)
    (old new : E)
    → FailsBy {A = Vec ℕ Global} given (Err fault) → IsTold told fault status old new
    → IfNone given (IsOfFault status → IsTold told Memory status old new)
told-memory told (Some first) fault status old new same shown = tt
told-memory told None fault status old new same shown =
    λ is_fault. subst (λ (f : Fault). IsTold told f status old new) same shown

-- arguments that are answered have no fault
no_fault : (given : Option Fault) (text : Vec ℕ Global) (P : Fault → Type 0) → FailsBy given (Ok text) → IfSome given P
no_fault (Some fault) text P same = absurd (cc same)
no_fault None text P same = tt

-- the answer of the arguments, once it is shown, is a run
pub IsRun-from_IsShown : {W E : Type 0} (contents : W → Option (List ℕ)) (told : E → Option (List ℕ))
    (arguments : Result (List (List ℕ)) Fault) (answer : Result (Vec ℕ Global) Fault) (status : ℕ)
    (out_old out_new : W) (err_old err_new : E)
    → FailsBy (fault_in arguments) answer → IfOk answer (λ text. IsTheAnswer arguments text.items)
    → IsShown contents told answer status out_old out_new err_old err_new
    → IsRun contents told arguments status out_old out_new err_old err_new
IsRun-from_IsShown contents told arguments (Ok text) status out_old out_new err_old err_new fails answers shown =
    record {
      ends = inl shown.0;
      fault = no_fault (fault_in arguments) text _ fails;
      memory = memory-answered (fault_in arguments);
      written = λ is. (text.items, (answers, shown.1 is));
      part = λ is. (text.items, (answers, shown.2));
      err = λ is_answer. shown.3;
      out = λ is_fault. absurd (one_kind status shown.0 is_fault);
    }
  where
    memory-answered : (given : Option Fault)
        → IfNone given (IsOfFault status → IsTold told Memory status err_old err_new)
    memory-answered (Some fault) = tt
    memory-answered None = λ is_fault. absurd (one_kind status shown.0 is_fault)
IsRun-from_IsShown contents told arguments (Err fault) status out_old out_new err_old err_new fails answers shown =
    let is_fault : IsOfFault status = rw shown.0.0 (IsOfFault-status_of fault) in
    record {
      ends = inr is_fault;
      fault = told-first told (fault_in arguments) fault status err_old err_new fails shown.0;
      memory = told-memory told (fault_in arguments) fault status err_old err_new fails shown.0;
      written = λ is. absurd (one_kind status (inl is) is_fault);
      part = λ is. absurd (one_kind status (inr is) is_fault);
      err = λ is_answer. absurd (one_kind status is_answer is_fault);
      out = λ _. shown.1;
    }
