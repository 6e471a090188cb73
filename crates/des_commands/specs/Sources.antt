-- The text that a source gives.
use Rattle.std.specs.Prelude.{◌≡◌, ◌⊎◌, ℕ, ◌≤◌, ◌<◌, List, length, Option}
use Rattle.std.specs.Io.KnownBytes.{Consumes, IsAtEnd}
use Rattle.des_lines.specs.declared.fault.Reason.{Reason}
use Rattle.des_lines.specs.declared.fault.FaultKind.{FaultKind}
use Rattle.des_lines.specs.declared.fault.FaultKind.TheVariants.{InputLength, Memory, Read, Source}

-- an input can't be read, or memory was refused
abbrev pub FailsToRead : FaultKind → Type 0
FailsToRead kind = (kind ≡ Memory) ⊎ ((reason : Reason) × (kind ≡ Read reason))

-- the same of the source of random bytes
abbrev pub FailsAsSource : FaultKind → Type 0
FailsAsSource kind = (kind ≡ Memory) ⊎ ((reason : Reason) × (kind ≡ Source reason))

abbrev pub of_source : FaultKind → FaultKind
of_source (Read reason) = Source reason
of_source kind = kind

-- all was read, no more than the longest input
abbrev pub IsAllOf : ℕ → List ℕ → Option (List ℕ) → Option (List ℕ) → Type 0
IsAllOf longest bytes read_from read_to =
    Consumes read_from read_to bytes × IsAtEnd read_to × (length bytes ≤ longest)

-- nothing is given: the input is longer, the source can't be read, or memory was refused
abbrev pub FailsToGive : ℕ → Option (List ℕ) → Option (List ℕ) → FaultKind → Type 0
FailsToGive longest read_from read_to kind =
    ((kind ≡ InputLength) × ((bytes : List ℕ) × Consumes read_from read_to bytes × (longest < length bytes)))
    ⊎ ((reason : Reason) × (kind ≡ Read reason)) ⊎ (kind ≡ Memory)
