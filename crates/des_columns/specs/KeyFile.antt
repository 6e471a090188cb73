-- The server's file of keys (des-key-file), as MySQL up to 5.7 and MariaDB read it (load_des_key_file, sql/des_key_file.cc; my_b_gets,
-- mysys/mf_iocache2.c).
use Rattle.std.specs.Prelude.{ℕ, ◌+◌, ◌-◌, ◌==◌, ◌&&◌, ◌||◌, not, nat_le, Bool, true, if◌then◌else◌, List, [], ◌∷◌, ◌++◌, Option, Some, None, length, take, drop, map, get_or, is_some}
use Rattle.std.specs.List.{before_first, position_or_len, range_with_len, suffix_len}
use Rattle.std.specs.Option.{option_map, option_or}
use Rattle.des_columns.specs.Mysql.{key_of, last_of, number_of}

-- ---- lines

-- the server takes bytes for a line once the end of a line is there, or 1,022 bytes are
abbrev pub is_line : List ℕ → Bool
is_line bytes = (last_of bytes == 10) || nat_le 1022 (length bytes)

-- the lines of a file, after bytes that are none yet: those that never become one are not read
abbrev pub lines_after : List ℕ → List ℕ → List (List ℕ)
lines_after begun [] = []
lines_after begun (byte ∷ bytes) =
    let more = begun ++ byte ∷ [] in
    (if is_line more then more ∷ [] else []) ++ lines_after (if is_line more then [] else more) bytes

-- ---- the key of a line: a digit, white space, the string, and bytes that are not shown

-- in latin1, which for MySQL is Windows' code page 1252
abbrev pub is_space : ℕ → Bool
is_space byte = (nat_le 9 byte && nat_le byte 13) || (byte == 32) || (byte == 160)

abbrev pub is_shown : ℕ → Bool
is_shown byte =
    nat_le 33 byte
    && not ((byte == 127) || (byte == 129) || (byte == 141) || (byte == 143) || (byte == 144) || (byte == 157) || (byte == 160))

-- bytes without those behind the last that is shown
abbrev pub until_shown : List ℕ → List ℕ
until_shown bytes = take (length bytes - suffix_len (λ byte. not (is_shown byte)) bytes) bytes

-- the string behind a digit: before a zero, and without white space in front
abbrev pub string_of : List ℕ → List ℕ
string_of rest =
    let text = before_first (λ byte. byte == 0) rest in
    until_shown (drop (position_or_len (λ byte. not (is_space byte)) text) text)

-- the string that a line has for a number, if it is not empty
abbrev pub string_at : ℕ → List ℕ → Option (List ℕ)
string_at number [] = None
string_at number (digit ∷ rest) =
    if (digit == 48 + number) && nat_le 1 (length (string_of rest)) then Some (string_of rest) else None

-- the string of a number: that of the last of its lines
abbrev pub string_in : ℕ → List (List ℕ) → Option (List ℕ)
string_in number [] = None
string_in number (line ∷ lines) = option_or (string_in number lines) (string_at number line)

-- the keys of a file, by their numbers, 0 to 9
abbrev pub keys_in : List ℕ → List (Option (List ℕ))
keys_in file = map (λ number. option_map key_of (string_in number (lines_after [] file))) (range_with_len 0 10)

-- ---- the key of a value

-- there is one of its number; an empty value needs none
abbrev pub has_key : List (Option (List ℕ)) → List ℕ → Bool
has_key keys [] = true
has_key keys (byte ∷ value) = is_some (get_or keys (number_of (byte ∷ value)) None)
