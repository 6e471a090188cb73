-- Hexadecimal digits of either case, with white space between bytes, as a stream gives them, a character after another: the
-- bytes that they write, and the line of the first character that is not a digit, or stands apart from the first digit of
-- its byte.
use Rattle.std.specs.Prelude.{ℕ, ◌+◌, ◌*◌, ◌%◌, ◌-◌, ◌^◌, min, ◌==◌, ◌&&◌, ◌||◌, Bool, true, false, not, if◌then◌else◌, List, [], ◌∷◌, filter, length, Option, Some, None, is_some, option_map, option_and_then, Result, Ok, Err}
use Rattle.std.specs.Result.{result_ok}
use Rattle.base64.specs.Read.{Outlook}
use Rattle.hex.specs.Hex.{decode_of, hex_digit_value}
use Rattle.des_passwords.specs.Decoding.{after_all, given_by}
use Rattle.des_passwords.specs.declared.hex_reader.HexFault.{HexFault}
use Rattle.des_passwords.specs.declared.hex_reader.HexFault.TheVariants.{Line, Odd}
use Rattle.des_passwords.specs.declared.hex_reader.HexReader.{HexReader}
use Rattle.des_passwords.specs.declared.hex_reader.Position.{Position}

-- ---- characters

-- a space, a tab, a new line or a carriage return
abbrev pub is_space : ℕ → Bool
is_space byte = (byte == 32) || ((byte == 9) || ((byte == 10) || (byte == 13)))

-- a text without its white space
abbrev pub written_in : List ℕ → List ℕ
written_in text = filter (λ byte. not (is_space byte)) text

-- a digit is the first of its byte, or the second
abbrev pub first_after : (first : Option ℕ) → (value : ℕ) → Option ℕ
first_after None value = Some value
first_after (Some first) value = None

abbrev pub after_digit : Position → (value : Option ℕ) → Position
after_digit position None = record position { fault = Some position.line }
after_digit position (Some value) = record position { first = first_after position.first value }

-- lines are counted up to 2 ^ 64 - 1
abbrev pub line_after : (line space : ℕ) → ℕ
line_after line space = if space == 10 then min (line + 1) (2 ^ 64 - 1) else line

-- where a text is after white space, which may stand apart the digits of a byte
abbrev pub after_space : Position → ℕ → Position
after_space position space =
    record position { line = line_after position.line space; is_apart = is_some position.first }

-- where a text is after a character more: nothing is read after a fault
unfoldable pub after : Position → ℕ → Position
after position character =
    if is_some position.fault then position
    else if is_space character then after_space position character
    else if position.is_apart then after_digit position None
    else after_digit position (hex_digit_value character)

-- the byte of two digits, whose values are below 16
abbrev pub byte_of_digits : (second first : Option ℕ) → Option ℕ
byte_of_digits (Some second) (Some first) = Some (first % 16 * 16 + second % 16)
byte_of_digits _ _ = None

-- the byte that a character ends, if it ends one
unfoldable pub byte_of : Position → ℕ → Option ℕ
byte_of position character =
    if is_some position.fault || position.is_apart then None else byte_of_digits (hex_digit_value character) position.first

-- all that was read are digits, and each byte has two
abbrev pub is_whole : Position → Bool
is_whole position = not (is_some position.fault) && not (is_some position.first)

-- a read into a buffer that is not empty gave nothing, and what was read is no whole text
abbrev pub ends_short : {E : Type 0} → Position → Result ℕ E → (buf : List ℕ) → Bool
ends_short position (Ok count) buf = (count == 0) && (not (length buf == 0) && not (is_whole position))
ends_short position (Err error) buf = false

-- the bytes that a text writes from a position on, if it is one of digits to its end
abbrev pub bytes_from : Position → List ℕ → Option (List ℕ)
bytes_from position text =
    if is_whole (after_all after position text) then Some (given_by after byte_of position text) else None

-- white space stands between bytes, and not after the first digit of one
unfoldable pub are_apart : (is_inside : Bool) → (text : List ℕ) → Bool
are_apart is_inside [] = true
are_apart is_inside (character ∷ text) =
    if is_space character then not is_inside && are_apart is_inside text else are_apart (not is_inside) text

-- the bytes that the digits of a whole text write, if it has no other characters but white space between bytes
abbrev pub bytes_of : List ℕ → Option (List ℕ)
bytes_of text = if are_apart false text then result_ok (decode_of (written_in text)) else None

-- why what was read is no text of digits: the first line that has others is told before a digit that is alone
abbrev pub fault_at : (fault first : Option ℕ) → Option HexFault
fault_at (Some line) first = Some (Line line)
fault_at None (Some first) = Some Odd
fault_at None None = None

-- ---- readers

module _ {R : Type 0} (remaining : R → Option (List ℕ)) where
  -- the bytes to come, if the text is known, or none if it is no text of digits
  abbrev pub outlook_on : HexReader R → Outlook
  outlook_on reader = option_map (bytes_from reader.position) (remaining reader.inner)

  -- the bytes to come, if the text is known and is one of digits
  abbrev pub bytes_remaining : HexReader R → Option (List ℕ)
  bytes_remaining reader = option_and_then (λ bytes. bytes) (outlook_on reader)

-- it is told where a read failed by it
abbrev pub fault_of : {R : Type 0} → HexReader R → Option HexFault
fault_of reader = if reader.is_malformed then fault_at reader.position.fault reader.position.first else None
