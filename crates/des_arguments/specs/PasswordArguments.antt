-- What the arguments of commands on files under passwords ask for.
use Rattle.std.specs.Prelude.{◌≡◌, ◌^◌, ◌<◌, ◌&&◌, ◌==◌, ℕ, nat_lt, Bool, true, false, not, if◌then◌else◌, List, ◌++◌, codes, Option, Some, None}
use Rattle.std.specs.Str.Parse.{IsNumeral, without_leading_plus, digits_value}
use Rattle.des_passwords.specs.declared.derivation.Derivation.{Derivation}
use Rattle.des_passwords.specs.declared.derivation.Derivation.TheVariants.{Md5, Sha1, Sha256, Pbkdf2Sha1, Pbkdf2Sha256}
use Rattle.des_lines.specs.declared.fault.Misuse.TheVariants.{Derivation as OtherDerivation, DerivationToEncrypt, Count}
use Rattle.des_lines.specs.declared.fault.FaultKind.{FaultKind}
use Rattle.des_lines.specs.declared.fault.FaultKind.TheVariants.{Usage}

-- a text writes a number of 32 bits in decimal digits, where a plus may stand first
abbrev pub IsCount : List ℕ → ℕ → Type 0
IsCount digits count =
    IsNumeral 10 (without_leading_plus digits) × (count < 2 ^ 32)
    × (count ≡ digits_value 10 (without_leading_plus digits))

-- a text names a derivation by a word with a count
abbrev pub IsCountedText : List ℕ → Derivation → Type 0
IsCountedText text (Pbkdf2Sha1 count) =
    (digits : List ℕ) × ((text ≡ codes "pbkdf2-sha1:" ++ digits) × IsCount digits count)
IsCountedText text (Pbkdf2Sha256 count) =
    (digits : List ℕ) × ((text ≡ codes "pbkdf2-sha256:" ++ digits) × IsCount digits count)
IsCountedText text _ = ⊥

-- a text names a derivation: a word, or a word with a count
abbrev pub IsDerivationText : List ℕ → Derivation → Type 0
IsDerivationText text Md5 = text ≡ codes "md5"
IsDerivationText text Sha1 = text ≡ codes "sha1"
IsDerivationText text Sha256 = text ≡ codes "sha256"
IsDerivationText text derivation = IsCountedText text derivation

-- how often it goes through the hash function
abbrev pub count_of : Derivation → ℕ
count_of (Pbkdf2Sha1 count) = count
count_of (Pbkdf2Sha256 count) = count
count_of _ = 1

abbrev pub is_to_encrypt : Derivation → Bool
is_to_encrypt (Pbkdf2Sha256 count) = true
is_to_encrypt _ = false

-- encryption takes one alone; there is an iteration at least, and no more than ten million unless any count is taken
abbrev pub derivation_fault : Derivation → (encrypts takes_any_count : Bool) → Option FaultKind
derivation_fault derivation encrypts takes_any_count =
    if encrypts && not (is_to_encrypt derivation) then Some (Usage DerivationToEncrypt)
    else if count_of derivation == 0 then Some (Usage OtherDerivation)
    else if nat_lt 10000000 (count_of derivation) && not takes_any_count then Some (Usage Count)
    else None
