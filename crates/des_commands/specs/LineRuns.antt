-- A run of `decrypt-lines`: what is written and told of the lines that were read, and the status, or where it failed.
use Rattle.std.specs.Prelude.{◌≡◌, ◌≤◌, ◌⊎◌, ℕ, ℤ, ◌+◌, ◌-◌, ◌^◌, ◌&&◌, ◌||◌, min, Bool, true, false, if◌then◌else◌, List, [], ◌∷◌, ◌++◌, length, codes, Option, Ok, Err, is_err, IfSome, ⊤}
use Rattle.std.specs.Io.KnownBytes.{Appends, Consumes}
use Rattle.std.specs.List.{concat, flat_map, list_any}
use Rattle.des_commands.specs.declared.lines.LinesJob.{LinesJob}
use Rattle.des_commands.specs.declared.lines.Tally.{Tally}
use Rattle.des_commands.specs.declared.lines.line_fault.LineFault.{LineFault}
use Rattle.des_commands.specs.declared.lines.line_kind.LineKind.{LineKind}
use Rattle.des_commands.specs.LineAnswers.{IsOutcome, Outcome}
use Rattle.des_commands.specs.LineFaults.{about_line, fault_line}
use Rattle.des_commands.specs.LineKinds.{IsOfKind, ReadsLines}
use Rattle.des_commands.specs.Sources.{FailsToRead}
use Rattle.des_lines.specs.Written.{AppendsPrefix}
use Rattle.des_lines.specs.declared.fault.FaultKind.{FaultKind}
use Rattle.des_lines.specs.declared.fault.FaultKind.TheVariants.{Write}
use Rattle.des_lines.specs.declared.fault.Reason.{Reason}

-- ---- what is answered

-- what a value is opened to: a status, and a text
abbrev pub Opening : Type 1
Opening = List ℕ → ℤ → List ℕ → Type 0

-- a line is answered by what its value is opened to
abbrev pub IsAnswered : Opening → LinesJob → List ℕ → Outcome → Type 0
IsAnswered Opens job line outcome =
    (kind : LineKind) × (value : List ℕ) × (status : ℤ) × (text : List ℕ)
    × IsOfKind job.coding line kind value × Opens value status text
    × IsOutcome job.writes_digits kind text status outcome

-- each of the first lines is
abbrev pub AreAnswered : Opening → LinesJob → List (List ℕ) → List Outcome → Type 0
AreAnswered Opens job lines [] = ⊤
AreAnswered Opens job [] (outcome ∷ outcomes) = ⊥
AreAnswered Opens job (line ∷ lines) (outcome ∷ outcomes) =
    IsAnswered Opens job line outcome × AreAnswered Opens job lines outcomes

-- ---- what is written

-- the line of an outcome: the answer; if there is none, an empty line if the run keeps going, else nothing
abbrev pub line_of : (keeps_going : Bool) → Outcome → List ℕ
line_of keeps_going (Ok answer) = answer ++ codes "\n"
line_of keeps_going (Err fault) = if keeps_going then codes "\n" else []

-- the end of a line, if the run goes on after it
abbrev pub end_of : (goes_on : Bool) → List ℕ
end_of goes_on = if goes_on then codes "\n" else []

abbrev pub written_of : (keeps_going : Bool) → List Outcome → List ℕ
written_of keeps_going outcomes = flat_map (line_of keeps_going) outcomes

-- lines are numbered up to 2^64 - 1
abbrev pub next : ℕ → ℕ
next number = min (number + 1) (2 ^ 64 - 1)

abbrev pub number_after : (number : ℕ) → List Outcome → ℕ
number_after number [] = number
number_after number (outcome ∷ outcomes) = number_after (next number) outcomes

-- of each fault the line is told, or a prefix of it, with the number of the line that is at fault
abbrev pub Tells : (name : List ℕ) → (number : ℕ) → List Outcome → Option (List ℕ) → Option (List ℕ) → Type 0
Tells name number [] old new = new ≡ old
Tells name number (Ok answer ∷ outcomes) old new = Tells name (next number) outcomes old new
Tells name number (Err fault ∷ outcomes) old new =
    (between : Option (List ℕ)) × AppendsPrefix old between (fault_line fault (about_line name number))
    × Tells name (next number) outcomes between new

abbrev pub has_faults : List Outcome → Bool
has_faults outcomes = list_any is_err outcomes

-- ---- how it ends

-- the last has no answer, and is the first that has none
abbrev pub EndsAtFault : List Outcome → Type 0
EndsAtFault outcomes =
    (front : List Outcome) × (fault : LineFault) × (outcomes ≡ front ++ Err fault ∷ []) × (has_faults front ≡ false)

-- 0 if each line has an answer; 6 if some have none, or 5 if the first of those ended the run
abbrev pub status_of : (keeps_going has_faults : Bool) → ℕ
status_of keeps_going false = 0
status_of true true = 6
status_of false true = 5

-- what is told of lines, and how they were counted
pub record Answers (job : LinesJob) (outcomes : List Outcome) (tally_from tally_to : Tally)
    (told_from told_to : Option (List ℕ)) : Type 0 where
  pub told : Tells job.name.now tally_from.line outcomes told_from told_to
  pub line : tally_to.line ≡ number_after tally_from.line outcomes
  pub faults : tally_to.has_faults ≡ (tally_from.has_faults || has_faults outcomes)

-- all lines were answered, none of them by a fault unless the run keeps going; or the last that was answered ended the run
abbrev pub GoesOn : (keeps_going goes_on : Bool) → (count : ℕ) → List Outcome → Type 0
GoesOn keeps_going true count outcomes =
    (length outcomes ≡ count) × (keeps_going ≡ false → has_faults outcomes ≡ false)
GoesOn keeps_going false count outcomes =
    (length outcomes ≤ count) × (keeps_going ≡ false) × EndsAtFault outcomes

-- lines, of which there are this number, are answered in order, and what is written of them is added
pub record AddsAnswers (job : LinesJob) (goes_on : Bool) (count : ℕ) (outcomes : List Outcome) (tally_from tally_to : Tally)
    (told_from told_to : Option (List ℕ)) (out_from out_to : List ℕ) : Type 0 where
  pub answers : Answers job outcomes tally_from tally_to told_from told_to
  pub counted : GoesOn job.keeps_going goes_on count outcomes
  pub added : out_to ≡ out_from ++ written_of job.keeps_going outcomes

-- ---- the whole

-- what a reader has left, and what the writers of answers and of faults hold, if that is known
pub record Streams : Type 0 where
  pub left : Option (List ℕ)
  pub written : Option (List ℕ)
  pub told : Option (List ℕ)

abbrev pub streams_of : (left written told : Option (List ℕ)) → Streams
streams_of left written told = record { left = left; written = written; told = told }

-- lines were read and answered, in order; if no more follow, they are all that was left
pub record Runs (Opens : Opening) (job : LinesJob) (goes_on more : Bool) (tally_from tally_to : Tally) (from to : Streams)
    : Type 0 where
  pub lines : List (List ℕ)
  pub outcomes : List Outcome
  pub reads : ReadsLines lines from.left to.left
  pub answered : AreAnswered Opens job lines outcomes
  pub counted : GoesOn job.keeps_going goes_on (length lines) outcomes
  pub written : Appends from.written to.written (written_of job.keeps_going outcomes)
  pub answers : Answers job outcomes tally_from tally_to from.told to.told
  pub all : more ≡ false → IfSome from.left (λ bytes. bytes ≡ concat lines)

-- they were, and the run goes on, if more lines may follow and none has ended it
pub record RunsOn (Opens : Opening) (job : LinesJob) (again : Bool) (tally_from tally_to : Tally) (from to : Streams)
    : Type 0 where
  pub goes_on : Bool
  pub more : Bool
  pub runs : Runs Opens job goes_on more tally_from tally_to from to
  pub is : again ≡ (more && goes_on)

abbrev pub first_tally : Tally
first_tally = record { line = 1; has_faults = false }

-- a run ended: at the end of the input, or at the first line that has no answer
pub record IsRun (Opens : Opening) (job : LinesJob) (status : ℕ) (from to : Streams) : Type 0 where
  pub tally : Tally
  pub ended : RunsOn Opens job false first_tally tally from to
  pub tells : status ≡ status_of job.keeps_going tally.has_faults

-- ---- faults

-- memory was refused, the input can't be read, or the output can't be written
abbrev pub FailsToRun : FaultKind → Type 0
FailsToRun kind = FailsToRead kind ⊎ ((reason : Reason) × (kind ≡ Write reason))

-- a run failed: lines were read, and then bytes, perhaps none. The first lines were answered, in order and up to one that
-- ends the run; of the answers a prefix was written, and the faults among them were told
pub record StopsAfter (Opens : Opening) (job : LinesJob) (line : ℕ) (from to : Streams) : Type 0 where
  pub lines : List (List ℕ)
  pub outcomes : List Outcome
  pub between : Option (List ℕ)
  pub bytes : List ℕ
  pub reads : ReadsLines lines from.left between
  pub more : Consumes between to.left bytes
  pub answered : AreAnswered Opens job lines outcomes
  pub goes_on : Bool
  pub counted : GoesOn job.keeps_going goes_on (length outcomes) outcomes
  pub written : AppendsPrefix from.written to.written (written_of job.keeps_going outcomes)
  pub told : Tells job.name.now line outcomes from.told to.told
