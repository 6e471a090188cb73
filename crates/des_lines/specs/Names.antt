-- What a fault of a calculation is about: an option, a place in the command line, or what is read.
use Rattle.std.specs.Prelude.{◌≡◌, ◌⊎◌, ℕ, ◌==◌, ◌||◌, Bool, List, IsTrue, Some}
use Rattle.std.specs.Char.{is_ascii_alphabetic}
use Rattle.std.specs.List.{list_all}
use Rattle.des_lines.specs.declared.requests.Account.TheVariants.{In}
use Rattle.des_lines.specs.declared.requests.CalculationRequest.{CalculationRequest}
use Rattle.des_lines.specs.declared.source.Source.{Source}
use Rattle.des_lines.specs.SourceNames.{name_of_source}

-- letters and hyphens, as `--account` and `SERIAL`, or nothing. A text that somebody gave may have a digit
abbrev pub is_place : List ℕ → Bool
is_place text = list_all (λ byte. is_ascii_alphabetic byte || (byte == 45)) text

-- the input, the key, the key of an outgoing block or the account number is read there
abbrev pub IsRead : CalculationRequest → Source → Type 0
IsRead request source =
    (source ≡ request.input)
    ⊎ ((request.key ≡ Some source) ⊎ ((request.to_key ≡ Some source) ⊎ (request.account ≡ In source)))

-- so no argument is told but a file's name, as `shown_path` shows it
abbrev pub IsSubject : CalculationRequest → List ℕ → Type 0
IsSubject request about =
    IsTrue (is_place about) ⊎ ((source : Source) × (IsRead request source × (about ≡ name_of_source source)))
