-- What is written of a text: a line.
use Rattle.std.specs.Prelude.{◌≡◌, ◌≢◌, ℕ, ℤ, ◌==◌, ◌&&◌, ◌||◌, nat_le, Bool, not, if◌then◌else◌, List, [], ◌++◌, Option, Some, None, Result, Ok, Err}
use Rattle.std.specs.Char.{is_control}
use Rattle.std.specs.List.{list_all}
use Rattle.std.specs.Str.{chars, is_utf8}
use Rattle.hex.specs.Hex.{encode_lower}
use Rattle.des_commands.specs.declared.lines.line_fault.LineFault.{LineFault}
use Rattle.des_commands.specs.declared.lines.line_fault.LineFault.TheVariants.{Length, Salt, NotEncrypted, KeyNumber, Base64, Padding, Unprintable}
use Rattle.des_commands.specs.declared.lines.line_kind.LineKind.{LineKind}
use Rattle.des_commands.specs.declared.lines.line_kind.LineKind.TheVariants.{Value, Empty, Null, Faulty}
use Rattle.des_commands.specs.LineKinds.{null_text}
use Rattle.des_columns.specs.declared.status.TheConstants.{OK, ERR_BLOCKS, ERR_SALT_LENGTH, ERR_NOT_ENCRYPTED, ERR_KEY_NUMBER, ERR_BASE64}

-- a printable character of ASCII, or a tab
abbrev pub is_plain : ℕ → Bool
is_plain byte = (nat_le 32 byte && nat_le byte 126) || (byte == 9)

-- a tab, or a character that is no control character, ends no line (U+2028, U+2029), and does not turn its direction
-- (U+202A to U+202E, U+2066 to U+2069)
abbrev pub is_printable_character : ℕ → Bool
is_printable_character character =
    (character == 9) || (not (is_control character)
    && not ((nat_le 0x2028 character && nat_le character 0x202E) || (nat_le 0x2066 character && nat_le character 0x2069)))

-- UTF-8 of such characters
abbrev pub is_text : List ℕ → Bool
is_text bytes = is_utf8 bytes && list_all is_printable_character (chars bytes)

-- bytes that can stand in a line
abbrev pub is_printable : List ℕ → Bool
is_printable bytes = list_all is_plain bytes || is_text bytes

-- what is written of a text, or why it is not: its digits if they are asked for, else the text
abbrev pub answer_of : (writes_digits : Bool) → List ℕ → Result (List ℕ) LineFault
answer_of writes_digits text =
    if writes_digits then Ok (encode_lower text) else if is_printable text then Ok text else Err Unprintable

-- the answer to a line, or why it has none
abbrev pub Outcome : Type 0
Outcome = Result (List ℕ) LineFault

-- it is added, or nothing is
abbrev pub AddsAnswer : Outcome → Option LineFault → List ℕ → List ℕ → Type 0
AddsAnswer (Ok answer) fault old new = (fault ≡ None) × (new ≡ old ++ answer)
AddsAnswer (Err cause) fault old new = (fault ≡ Some cause) × (new ≡ old)

-- ---- lines

-- the reason that a status gives: each of these has its own, and all others are told of as wrong padding
abbrev pub IsFaultOf : ℤ → Option LineFault → Type 0
IsFaultOf status None = status ≡ OK
IsFaultOf status (Some Length) = status ≡ ERR_BLOCKS
IsFaultOf status (Some Salt) = status ≡ ERR_SALT_LENGTH
IsFaultOf status (Some NotEncrypted) = status ≡ ERR_NOT_ENCRYPTED
IsFaultOf status (Some KeyNumber) = status ≡ ERR_KEY_NUMBER
IsFaultOf status (Some Base64) = status ≡ ERR_BASE64
IsFaultOf status (Some Padding) =
    (status ≢ OK) × (status ≢ ERR_BLOCKS) × (status ≢ ERR_SALT_LENGTH) × (status ≢ ERR_NOT_ENCRYPTED)
    × (status ≢ ERR_KEY_NUMBER) × (status ≢ ERR_BASE64)
IsFaultOf status (Some _) = ⊥

abbrev pub answer_after : Option LineFault → Outcome → Outcome
answer_after (Some fault) answer = Err fault
answer_after None answer = answer

-- the answer to a text, unless the status says that there is none
abbrev pub IsOpened : (writes_digits : Bool) → (text : List ℕ) → ℤ → Outcome → Type 0
IsOpened writes_digits text status outcome =
    (fault : Option LineFault) × IsFaultOf status fault × (outcome ≡ answer_after fault (answer_of writes_digits text))

-- the answer to a line: nothing to nothing, to a word for what is no value that word, and to a value what its text is
abbrev pub IsOutcome : (writes_digits : Bool) → LineKind → (text : List ℕ) → ℤ → Outcome → Type 0
IsOutcome writes_digits Value text status outcome = IsOpened writes_digits text status outcome
IsOutcome writes_digits Empty text status outcome = outcome ≡ Ok []
IsOutcome writes_digits (Null word) text status outcome = outcome ≡ Ok (null_text word)
IsOutcome writes_digits (Faulty fault) text status outcome = outcome ≡ Err fault
