-- What the program writes, and the status that it ends with, by its arguments.
use Rattle.std.specs.Prelude.{◌≡◌, ◌⊎◌, ℕ, List, map, drop, Option, Some, Result, Ok, Err, IfSome, IfNone, IsOkAnd, string_bytes}
use Rattle.std.specs.IoError.{error_kind}
use Rattle.std.specs.Vec.Iter.{into_iter_items}
use Rattle.std.specs.declared.alloc.Global.{Global}
use Rattle.std.specs.declared.string.String.{String}
use Rattle.std.specs.declared.vec.IntoIter.{IntoIter}
use Rattle.std.specs.declared.io.Error.{Error}
use Rattle.std.specs.declared.io.ErrorKind.{ErrorKind}
use Rattle.std.specs.declared.io.ErrorKind.TheVariants.{OutOfMemory}
use Rattle.std.specs.Io.KnownBytes.{Appends}
use Rattle.des.specs.Relations.{IsTheOne}
use Rattle.des_tool.specs.declared.command.fault.Fault.{Fault}
use Rattle.des_tool.specs.declared.command.fault.Fault.TheVariants.{Usage, Memory}
use Rattle.des_tool.specs.Fault.{fault_of}
use Rattle.des_tool.specs.Answer.{IsAnswer}
use Rattle.des_tool.specs.Status.{answer_written, answer_not_written, IsOfAnswer, IsOfFault, AppendsPrefix, IsTold}

-- the texts of the arguments of a process, but for the first, which is the program's own name
abbrev pub texts_of_args : IntoIter (String Global) Global → List (List ℕ)
texts_of_args args = map string_bytes (drop 1 (into_iter_items args))

-- the fault of arguments that cannot be read: those that are not text have no shape that is known
abbrev pub fault_of_kind : ErrorKind → Fault
fault_of_kind OutOfMemory = Memory
fault_of_kind _ = Usage

-- the arguments are those of the process, unless there is no memory for them, or they are not text
abbrev pub IsReadAs : Result (IntoIter (String Global) Global) Error
    → Result (List (List ℕ)) Fault → Type 0
IsReadAs (Ok args) arguments = (arguments ≡ Ok (texts_of_args args)) ⊎ (arguments ≡ Err Memory)
IsReadAs (Err error) arguments = arguments ≡ Err (fault_of_kind (error_kind error))

-- the first fault, but for memory, of arguments or of what kept them from being read
abbrev pub fault_in : Result (List (List ℕ)) Fault → Option Fault
fault_in (Ok arguments) = fault_of arguments
fault_in (Err fault) = Some fault

-- the text is the one that answers the arguments, which were read
abbrev pub IsTheAnswer : Result (List (List ℕ)) Fault → List ℕ → Type 0
IsTheAnswer arguments text = IsOkAnd arguments (λ arguments. IsTheOne (IsAnswer arguments) text)

-- a run on these arguments, or on what kept them from being read, with the writers before and
-- after. A fault has its own status, and its line is told. If there is none, the answer is
-- written whole, or a prefix of it, or memory is refused. What has no part in that writer stays as
-- it is
pub record IsRun {W E : Type 0} (out_contents : W → Option (List ℕ))
    (err_contents : E → Option (List ℕ)) (arguments : Result (List (List ℕ)) Fault) (status : ℕ)
    (out_old out_new : W) (err_old err_new : E) : Type 0 where
  pub ends : IsOfAnswer status ⊎ IsOfFault status
  pub fault : IfSome (fault_in arguments)
      (λ fault. IsTold err_contents fault status err_old err_new)
  pub memory : IfNone (fault_in arguments)
      (IsOfFault status → IsTold err_contents Memory status err_old err_new)
  pub written : status ≡ answer_written
      → (text : List ℕ) × (IsTheAnswer arguments text
      × Appends (out_contents out_old) (out_contents out_new) text)
  pub part : status ≡ answer_not_written
      → (text : List ℕ) × (IsTheAnswer arguments text
      × AppendsPrefix (out_contents out_old) (out_contents out_new) text)
  pub err : IsOfAnswer status → err_new ≡ err_old
  pub out : IsOfFault status → out_new ≡ out_old
