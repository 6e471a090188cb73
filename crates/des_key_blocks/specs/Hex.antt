-- Hexadecimal digits as ASCII characters, in upper case: `0` is 48, `A` is 65.
use Rattle.std.specs.Prelude.{ℕ, zero, suc, ◌+◌, ◌/◌, ◌%◌, nat_lt, if◌then◌else◌, List, [], ◌∷◌, ◌++◌}

-- the character of a digit
abbrev pub hex_digit : ℕ → ℕ
hex_digit digit = if nat_lt digit 10 then digit + 48 else digit + 55

-- bytes in digits, two a byte
unfoldable pub hex_of : List ℕ → List ℕ
hex_of [] = []
hex_of (byte ∷ bytes) = hex_digit (byte / 16) ∷ hex_digit (byte % 16) ∷ hex_of bytes

-- a number in n digits
unfoldable pub hex_number : ℕ → ℕ → List ℕ
hex_number zero number = []
hex_number (suc n) number = hex_number n (number / 16) ++ hex_digit (number % 16) ∷ []
