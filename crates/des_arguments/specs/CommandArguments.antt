-- What a command line is: the direction of a stream, and which inputs are standard input.
use Rattle.std.specs.Prelude.{◌≡◌, ◌⊎◌, ℕ, Bool, true, false, List, [], ◌∷◌, length, filter, codes, Option, Some, None, ⊤}
use Rattle.des_lines.specs.declared.requests.Account.{Account}
use Rattle.des_lines.specs.declared.requests.Account.TheVariants.{In}
use Rattle.des_lines.specs.declared.requests.CalculationRequest.{CalculationRequest}
use Rattle.des_requests.specs.declared.command.Command.{Command}
use Rattle.des_requests.specs.declared.command.Command.TheVariants.{Stream}
use Rattle.des_lines.specs.declared.source.Source.{Source}
use Rattle.des_lines.specs.declared.source.Source.TheVariants.{StandardInput}

-- a stream is encrypted or decrypted as the command's name says
abbrev pub HasDirectionOf : Option (List ℕ) → Command → Type 0
HasDirectionOf name (Stream request) =
    ((name ≡ Some (codes "encrypt")) × (request.encrypts ≡ true))
    ⊎ ((name ≡ Some (codes "decrypt")) × (request.encrypts ≡ false))
HasDirectionOf name _ = ⊤

-- ---- standard input

abbrev pub is_standard_input : Option Source → Bool
is_standard_input (Some StandardInput) = true
is_standard_input _ = false

abbrev pub source_of : Account → Option Source
source_of (In source) = Some source
source_of _ = None

-- how many inputs of a calculation are standard input: its account number, its keys, and what is computed with
abbrev pub standard_inputs : CalculationRequest → ℕ
standard_inputs request =
    length (filter is_standard_input
    (source_of request.account ∷ request.key ∷ request.to_key ∷ Some request.input ∷ []))
