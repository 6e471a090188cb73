-- What a line is read as.
use Rattle.std.specs.Prelude.{◌≡◌, ◌≢◌, ℕ, ◌==◌, ◌&&◌, ◌||◌, Bool, if◌then◌else◌, List, [], ◌++◌, ◌∷◌, drop, slice_index, codes, Option, Result, Ok, Err, IfSome}
use Rattle.std.specs.Char.{is_ascii_hexdigit}
use Rattle.std.specs.List.{list_all}
use Rattle.std.specs.Io.BufRead.{take_through}
use Rattle.std.specs.Io.KnownBytes.{Consumes}
use Rattle.std.specs.Str.{IsTrimAscii}
use Rattle.base64.specs.Engines.{standard}
use Rattle.base64.specs.GeneralPurpose.{decode_of as base64_of}
use Rattle.hex.specs.Hex.{decode_of as digits_decoded}
use Rattle.des_commands.specs.declared.lines.line_fault.LineFault.{LineFault}
use Rattle.des_commands.specs.declared.lines.line_fault.LineFault.TheVariants.{Digit, DigitCount, Base64 as NoBase64}
use Rattle.des_requests.specs.declared.lines.LineCoding.{LineCoding}
use Rattle.des_requests.specs.declared.lines.LineCoding.TheVariants.{Hexadecimal, Base64, Bytes}
use Rattle.des_commands.specs.declared.lines.line_kind.NullWord.{NullWord}
use Rattle.des_commands.specs.declared.lines.line_kind.NullWord.TheVariants.{Upper, Lower, Escape}
use Rattle.des_commands.specs.declared.lines.line_kind.LineKind.{LineKind}
use Rattle.des_commands.specs.declared.lines.line_kind.LineKind.TheVariants.{Value, Empty, Null, Faulty}

-- how what is no value is written: `NULL` as by `mysql`, `null` as in JSON, `\N` as by `mysqldump --tab` and by `COPY` of PostgreSQL
abbrev pub null_text : NullWord → List ℕ
null_text Upper = codes "NULL"
null_text Lower = codes "null"
null_text Escape = codes "\\N"

-- `\x`, as PostgreSQL writes before the digits of bytes, or `0x`, as MySQL does
abbrev pub has_prefix : List ℕ → Bool
has_prefix text = ((slice_index text 0 == 92) || (slice_index text 0 == 48)) && (slice_index text 1 == 120)

-- `\\x`, as `COPY` of PostgreSQL writes for that
abbrev pub has_doubled_prefix : List ℕ → Bool
has_doubled_prefix text = (slice_index text 0 == 92) && (slice_index text 1 == 92) && (slice_index text 2 == 120)

abbrev pub digits_of : List ℕ → List ℕ
digits_of text = if has_doubled_prefix text then drop 3 text else if has_prefix text then drop 2 text else text

-- why a text is not the digits of bytes: a character is none, or else their number is odd
abbrev pub digits_fault : List ℕ → LineFault
digits_fault text = if list_all is_ascii_hexdigit text then DigitCount else Digit

abbrev pub bytes_or : {E : Type 0} → LineFault → Result (List ℕ) E → Result (List ℕ) LineFault
bytes_or fault (Ok bytes) = Ok bytes
bytes_or fault (Err error) = Err fault

-- the bytes that a text stands for, or why it stands for none
abbrev pub bytes_in : LineCoding → List ℕ → Result (List ℕ) LineFault
bytes_in Hexadecimal text = bytes_or (digits_fault (digits_of text)) (digits_decoded (digits_of text))
bytes_in Base64 text = bytes_or NoBase64 (base64_of standard text)
bytes_in Bytes text = Ok text

-- the bytes are added, or there are none
abbrev pub Adds : Result (List ℕ) LineFault → LineKind → List ℕ → List ℕ → Type 0
Adds (Ok bytes) kind old new = (kind ≡ Value) × (new ≡ old ++ bytes)
Adds (Err fault) kind old new = (kind ≡ Faulty fault) × (new ≡ old)

-- it is neither empty nor a word for what is no value
abbrev pub StandsForValue : List ℕ → Type 0
StandsForValue text = (text ≢ []) × ((word : NullWord) → text ≢ null_text word)

-- what a text without blanks at its ends is read as, and the value that stands in the column: an empty one if there is none
abbrev pub IsReadAs : LineCoding → List ℕ → LineKind → List ℕ → Type 0
IsReadAs coding text Empty value = (text ≡ []) × (value ≡ [])
IsReadAs coding text (Null word) value = (text ≡ null_text word) × (value ≡ [])
IsReadAs coding text Value value = StandsForValue text × (bytes_in coding text ≡ Ok value)
IsReadAs coding text (Faulty fault) value = StandsForValue text × (bytes_in coding text ≡ Err fault) × (value ≡ [])

abbrev pub IsOfKind : LineCoding → List ℕ → LineKind → List ℕ → Type 0
IsOfKind coding line kind value = (text : List ℕ) × IsTrimAscii line text × IsReadAs coding text kind value

-- the value is added
abbrev pub AddsValue : LineCoding → List ℕ → LineKind → List ℕ → List ℕ → Type 0
AddsValue coding line kind old new = (value : List ℕ) × IsOfKind coding line kind value × (new ≡ old ++ value)

-- ---- lines

-- a line is read, up to its line feed or the end
abbrev pub ReadsLine : List ℕ → Option (List ℕ) → Option (List ℕ) → Type 0
ReadsLine line from to = Consumes from to line × IfSome from (λ bytes. line ≡ take_through 10 bytes)

-- they are, one after another
abbrev pub ReadsLines : List (List ℕ) → Option (List ℕ) → Option (List ℕ) → Type 0
ReadsLines [] from to = Consumes from to []
ReadsLines (line ∷ lines) from to = (next : Option (List ℕ)) × ReadsLine line from next × ReadsLines lines next to
