-- Base64 (RFC 4648, section 4) in lines of any length. What the lines have without the blanks at their ends is read one
-- after the other: the bytes, or the number of the line at fault.
use Rattle.std.specs.Prelude.{◌≡◌, ℕ, ◌+◌, ◌-◌, List, [], ◌∷◌, length, Result, Ok, Err, nat_lt, if◌then◌else◌}
use Rattle.std.specs.List.{flat_map}
use Rattle.base64.specs.Engines.{standard}
use Rattle.base64.specs.GeneralPurpose.{decode_of}
use Rattle.base64.specs.declared.decode.DecodeError.{DecodeError}
use Rattle.base64.specs.declared.decode.DecodeError.TheVariants.{InvalidByte, InvalidLength, InvalidLastSymbol, InvalidPadding}
use Rattle.des_passwords.specs.TextLines.{trimmed}
use Rattle.des_passwords.specs.declared.base64_lines.Base64Error.{Base64Error}
use Rattle.des_passwords.specs.declared.base64_lines.Base64Error.TheVariants.{Line, OutOfMemory}

-- what lines have, one after the other
abbrev pub characters_in : List (List ℕ) → List ℕ
characters_in lines = flat_map trimmed lines

-- the place of the character at fault: the last one of all if characters are missing
abbrev pub place_of : DecodeError → ℕ → ℕ
place_of (InvalidByte place byte) count = place
place_of (InvalidLastSymbol place symbol value) count = place
place_of (InvalidLength place) count = count - 1
place_of InvalidPadding count = count - 1

-- the number of the line with the character at a place, if the first is line n
unfoldable pub line_at : ℕ → ℕ → List (List ℕ) → ℕ
line_at n place [] = n
line_at n place (line ∷ rest) =
    if nat_lt place (length (trimmed line)) then n
    else line_at (n + 1) (place - length (trimmed line)) rest

-- what decoding gives, with the line at fault, if the first is line n
abbrev pub in_lines : ℕ → List (List ℕ) → Result (List ℕ) DecodeError → Result (List ℕ) ℕ
in_lines n lines (Ok bytes) = Ok bytes
in_lines n lines (Err error) = Err (line_at n (place_of error (length (characters_in lines))) lines)

-- the bytes of lines, of which the first is line n
unfoldable pub bytes_in : ℕ → List (List ℕ) → Result (List ℕ) ℕ
bytes_in n lines = in_lines n lines (decode_of standard (characters_in lines))

-- what a function returned is what reading gives, unless memory ran out
abbrev pub IsFault : {Y : Type 0} → Base64Error → Result Y ℕ → Type 0
IsFault (Line n) read = read ≡ Err n
IsFault OutOfMemory read = Unit {0}

abbrev pub Gives : {X Y : Type 0} → (X → Y) → Result X Base64Error → Result Y ℕ → Type 0
Gives view (Ok x) read = read ≡ Ok (view x)
Gives view (Err e) read = IsFault e read
