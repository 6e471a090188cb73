-- Base64 (RFC 4648, section 4) in lines, as a stream gives it, a byte after another: the characters that the lines have
-- without the blanks at their ends, and the line of the first character that can't stand where it does.
use Rattle.std.specs.Prelude.{ℕ, ◌+◌, ◌%◌, ◌-◌, ◌^◌, min, ◌==◌, ◌&&◌, ◌||◌, Bool, true, false, not, if◌then◌else◌, List, Option, Some, None, option_map}
use Rattle.std.specs.Char.{is_ascii_alphanumeric, is_ascii_whitespace}
use Rattle.base64.specs.declared.engine.general_purpose.GeneralPurpose.{GeneralPurpose}
use Rattle.base64.specs.GeneralPurpose.{decoded_of}
use Rattle.base64.specs.Read.{decoder_remaining, outlook, Outlook}
use Rattle.des_passwords.specs.Decoding.{given_by}
use Rattle.des_passwords.specs.declared.base64_reader.Base64Reader.{Base64Reader}
use Rattle.des_passwords.specs.declared.base64_reader.Characters.{Characters}
use Rattle.des_passwords.specs.declared.base64_reader.Place.{Place}
use Rattle.des_passwords.specs.declared.base64_reader.Place.TheVariants.{Start, Within, Gap}
use Rattle.des_passwords.specs.declared.base64_reader.Position.{Position}

-- before the first byte
abbrev pub beginning : Position
beginning = record { line = 1; place = Start; count = 0; is_padded = false; last_line = 1; fault = None }

-- ---- characters

-- a blank that nothing follows in its line is passed over
abbrev pub after_blank : Place → Place
after_blank Start = Start
after_blank Within = Gap
after_blank Gap = Gap

abbrev pub is_gap : Place → Bool
is_gap Gap = true
is_gap _ = false

-- the symbols of table 1
abbrev pub is_symbol : ℕ → Bool
is_symbol byte = is_ascii_alphanumeric byte || (byte == 43) || (byte == 47)

-- a character after a blank of its line can't stand there, nor can a symbol after padding, nor padding before the third
-- character of four
abbrev pub can_stand : Position → ℕ → Bool
can_stand position byte =
    not (is_gap position.place)
    && (if is_symbol byte then not position.is_padded else (byte == 61) && (position.count == 2 || position.count == 3))

abbrev pub fault_after : Option ℕ → (can_stand : Bool) → (line : ℕ) → Option ℕ
fault_after (Some line) right here = Some line
fault_after None true here = None
fault_after None false here = Some here

abbrev pub after_character : Position → ℕ → Position
after_character position byte = record {
  line = position.line;
  place = Within;
  count = position.count % 4 + 1;
  is_padded = position.is_padded || (byte == 61);
  last_line = position.line;
  fault = fault_after position.fault (can_stand position byte) position.line;
}

-- where a stream is after a byte more: lines are counted up to 2 ^ 64 - 1
unfoldable pub after : Position → ℕ → Position
after position byte =
    if byte == 10 then record position { line = min (position.line + 1) (2 ^ 64 - 1); place = Start }
    else if is_ascii_whitespace byte then record position { place = after_blank position.place }
    else after_character position byte

-- the character that a byte gives: none that is a blank, and in place of one that follows a blank of its line the blank,
-- which is no symbol
unfoldable pub character_of : Position → ℕ → Option ℕ
character_of position byte =
    if is_ascii_whitespace byte then None
    else if is_gap position.place then Some 32
    else Some byte

-- the characters of a text from a position on
abbrev pub characters_from : Position → List ℕ → List ℕ
characters_from position text = given_by after character_of position text

-- ---- readers

module _ {R : Type 0} (remaining : R → Option (List ℕ)) where
  -- the characters to come
  abbrev pub characters_remaining : Characters R → Option (List ℕ)
  characters_remaining reader = option_map (characters_from reader.position) (remaining reader.inner)

  -- the bytes to come, if the text is known and decodes
  abbrev pub bytes_remaining : Base64Reader R → Option (List ℕ)
  bytes_remaining reader = decoder_remaining characters_remaining reader.decoder

  -- the same, and whether the text decodes
  abbrev pub outlook_on : Base64Reader R → Outlook
  outlook_on reader = outlook characters_remaining reader.decoder

-- the bytes that a text encodes, if it is Base64 as an engine decodes it
abbrev pub bytes_of : GeneralPurpose → List ℕ → Option (List ℕ)
bytes_of engine text = decoded_of engine (characters_from beginning text)
