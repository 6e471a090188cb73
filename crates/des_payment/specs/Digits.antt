-- Digits of four bits.
use Rattle.std.specs.Prelude.{ℕ, ◌+◌, ◌-◌, ◌*◌, ◌/◌, ◌%◌, ◌^◌, List, [], ◌∷◌}

-- the digits of bytes, two a byte
unfoldable pub digits_of : List ℕ → List ℕ
digits_of [] = []
digits_of (byte ∷ bytes) = byte / 16 ∷ byte % 16 ∷ digits_of bytes

-- the bytes of digits, two a byte
unfoldable pub bytes_of : List ℕ → List ℕ
bytes_of [] = []
bytes_of (high ∷ []) = []
bytes_of (high ∷ low ∷ digits) = (16 * high + low) ∷ bytes_of digits

-- the digit at a place of a number of `count` digits; place 0 has the highest
abbrev pub digit_in : ℕ → ℕ → ℕ → ℕ
digit_in number count place = number / 2 ^ (4 * (count - (place + 1))) % 16
