-- The faults of the program, as `docs/CUKVASHE.md` lists them: the form of the lines that tell them, and the statuses
-- that it ends with.
use Rattle.std.specs.Prelude.{◌≡◌, ℕ, ◌==◌, ◌⊎◌, ◌&&◌, ◌||◌, nat_le, Bool, if◌then◌else◌, List, [], ◌∷◌, ◌++◌, length, codes, Option, Some, None, Result, Err, IfErr}
use Rattle.std.specs.Char.{encode_utf8, is_control}
use Rattle.std.specs.List.{concat, flat_map}
use Rattle.std.specs.Result.{result_err}
use Rattle.std.specs.Str.{chars}
use Rattle.des_io.specs.declared.error.StreamError.{StreamError}
use Rattle.des_io.specs.declared.error.StreamError.TheVariants.{Read as ReadError, Write as WriteError, Length as LengthError, Start as StartError, Padding as PaddingError}
use Rattle.des_lines.specs.declared.fault.Reason.{Reason}
use Rattle.des_lines.specs.declared.fault.FaultKind.{FaultKind}
use Rattle.des_lines.specs.declared.fault.FaultKind.TheVariants.{Source, WeakKey, File, Memory, Read, Write, Length, Start, Padding}

-- what a fault of what has a name is about: refused memory is about nothing
abbrev pub about_of : FaultKind → List ℕ → List ℕ
about_of Memory name = []
about_of kind name = name

-- ---- lines

-- what a line tells: a name, what it is about, if that is not empty, and words
abbrev pub line_start : List ℕ → List ℕ
line_start name = concat (codes "cukvashe: " ∷ name ∷ codes ": " ∷ [])

abbrev pub separator_of : List ℕ → List ℕ
separator_of about = if length about == 0 then [] else codes ": "

abbrev pub line_end : List ℕ → List ℕ → List ℕ
line_end about words = concat (separator_of about ∷ words ∷ codes "\n" ∷ [])

-- a control character (U+0000 to U+001F, U+007F to U+009F), and one that turns the direction of a line (U+202A to U+202E,
-- U+2066 to U+2069), is shown as a question mark: a line stays one line, and reads as it was written
abbrev pub is_unseen : ℕ → Bool
is_unseen character =
    is_control character || ((nat_le 0x202A character && nat_le character 0x202E) || (nat_le 0x2066 character && nat_le character 0x2069))

abbrev pub shown_character : ℕ → ℕ
shown_character character = if is_unseen character then 63 else character

abbrev pub shown_text : List ℕ → List ℕ
shown_text text = flat_map (λ character. encode_utf8 (shown_character character)) (chars text)

abbrev pub line_with : List ℕ → List ℕ → List ℕ → List ℕ
line_with name about words = line_start name ++ (shown_text about ++ line_end about words)

-- ---- statuses

-- the status of a fault: memory was refused; a file was not read or not written; the
-- input is not whole blocks, is too short, has wrong padding, or is no file of its form under a
-- password; or else the arguments, a key or an input is at fault
abbrev pub status_of : FaultKind → ℕ
status_of Memory = 3
status_of (Read reason) = 4
status_of (Source reason) = 4
status_of (Write reason) = 4
status_of Length = 5
status_of Start = 5
status_of Padding = 5
status_of (File fault) = 5
status_of _ = 2

-- the fault of an error of a stream
abbrev pub IsOfStream : StreamError → FaultKind → Type 0
IsOfStream (ReadError error) kind = (reason : Reason) × (kind ≡ Read reason)
IsOfStream (WriteError error) kind = (reason : Reason) × (kind ≡ Write reason)
IsOfStream (LengthError past) kind = kind ≡ Length
IsOfStream StartError kind = kind ≡ Start
IsOfStream PaddingError kind = kind ≡ Padding

-- a call gives this fault, if there is one, and else fails only if memory is refused
abbrev pub FailsBy : {A : Type 0} → Option FaultKind → Result A FaultKind → Type 0
FailsBy (Some kind) result = result ≡ Err kind
FailsBy None result = IfErr result (λ kind. kind ≡ Memory)

-- a call that takes no memory gives this fault, if there is one, and else does not fail
abbrev pub FailsOnlyBy : {A : Type 0} → Option FaultKind → Result A FaultKind → Type 0
FailsOnlyBy fault result = result_err result ≡ fault

-- a call gives this fault, if there is one, and else something else holds
abbrev pub FailsOr : {A : Type 0} → Option FaultKind → Type 0 → Result A FaultKind → Type 0
FailsOr (Some kind) Else result = result ≡ Err kind
FailsOr None Else result = Else

-- a call gives this fault, if there is one. Else it fails as `WeakKey` if the key is refused, and if it
-- is not, only if memory is refused
abbrev pub FailsOrRefuses : {A : Type 0} → Option FaultKind → Type 0 → Result A FaultKind → Type 0
FailsOrRefuses (Some kind) Refused result = result ≡ Err kind
FailsOrRefuses None Refused result =
    (Refused × (result ≡ Err WeakKey)) ⊎ ((¬ Refused) × FailsBy None result)
