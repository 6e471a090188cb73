-- Texts that are nothing but hexadecimal digits and line ends, piece by piece.
use Rattle.std.specs.Prelude.{ℕ, ◌%◌, ◌==◌, ◌&&◌, ◌||◌, nat_lt, Bool, false, not, if◌then◌else◌, List, filter, length}
use Rattle.std.specs.List.{list_any}
use Rattle.std.specs.Char.{is_ascii_hexdigit}
use Rattle.des_passwords.specs.declared.hex_text.Seen.{Seen}

-- a digit, or a character of a line's end
abbrev pub is_digit_or_end : ℕ → Bool
is_digit_or_end byte = is_ascii_hexdigit byte || (byte == 10 || byte == 13)

abbrev pub digits_in : List ℕ → ℕ
digits_in text = length (filter is_ascii_hexdigit text)

abbrev pub is_other : List ℕ → Bool
is_other text = list_any (λ byte. not (is_digit_or_end byte)) text

-- before the first piece
abbrev pub unseen : Seen
unseen = record { has_digits = false; is_odd = false; has_others = false }

-- what was seen after a piece more: after something else, nothing more is looked at
abbrev pub seen_after : Seen → List ℕ → Seen
seen_after seen text =
    if seen.has_others then seen
    else record {
      has_digits = seen.has_digits || nat_lt 0 (digits_in text);
      is_odd = if digits_in text % 2 == 1 then not seen.is_odd else seen.is_odd;
      has_others = is_other text;
    }

abbrev pub is_hexadecimal : Seen → Bool
is_hexadecimal seen = seen.has_digits && (not seen.is_odd && not seen.has_others)
