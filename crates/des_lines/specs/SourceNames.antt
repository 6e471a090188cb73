-- What faults call a source.
use Rattle.std.specs.Prelude.{ℕ, ◌&&◌, ◌||◌, ◌==◌, nat_le, Bool, true, false, not, if◌then◌else◌, ◌/◌, List, filter, length, codes}
use Rattle.std.specs.List.{list_any}
use Rattle.std.specs.Char.{is_ascii_digit, is_ascii_hexdigit}
use Rattle.des_lines.specs.declared.source.Source.{Source}
use Rattle.des_lines.specs.declared.source.Source.TheVariants.{StandardInput, File, Descriptor, Variable}
use Rattle.des_passwords.specs.HexStreams.{is_space}

-- what somebody writes between the digits of a secret or around them, as in 0x13:34 and "13-34": white space, marks and
-- the letter x
abbrev pub is_between : ℕ → Bool
is_between byte = is_space byte || list_any (λ mark. byte == mark) (codes ":-_.,;/\\='\"xX")

abbrev pub is_digit : (is_hexadecimal : Bool) → ℕ → Bool
is_digit is_hexadecimal byte = if is_hexadecimal then is_ascii_hexdigit byte else is_ascii_digit byte

abbrev pub digits_in : (is_hexadecimal : Bool) → List ℕ → ℕ
digits_in is_hexadecimal path = length (filter (λ byte. is_digit is_hexadecimal byte) path)

-- how many characters are neither digits nor between them
abbrev pub others_in : (is_hexadecimal : Bool) → List ℕ → ℕ
others_in is_hexadecimal path =
    length (filter (λ byte. not (is_digit is_hexadecimal byte) && not (is_between byte)) path)

-- these digits at least, and for four of them one other character at most
abbrev pub are_mostly : (is_hexadecimal : Bool) → (least : ℕ) → List ℕ → Bool
are_mostly is_hexadecimal least path =
    nat_le least (digits_in is_hexadecimal path)
    && nat_le (others_in is_hexadecimal path) (digits_in is_hexadecimal path / 4)

-- a path may be a secret that was typed in the place of a file's name: four decimal digits or more, as
-- a PIN or an account number, or 15 hexadecimal digits or more, as a key, also with a word before them
-- or if a character is wrong
abbrev pub may_be_secret : List ℕ → Bool
may_be_secret path = are_mostly false 4 path || are_mostly true 15 path

-- a path as a fault shows it
abbrev pub shown_path : List ℕ → List ℕ
shown_path path =
    if length path == 0 then codes "an empty name"
    else if may_be_secret path then codes "a file named by digits"
    else path

-- what a fault of a source is about
abbrev pub name_of_source : Source → List ℕ
name_of_source StandardInput = codes "standard input"
name_of_source (File path) = shown_path path.now
name_of_source (Descriptor number) = codes "--key-fd"
name_of_source (Variable name) = codes "--key-env"
