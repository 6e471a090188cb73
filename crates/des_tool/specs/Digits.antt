-- Texts of hexadecimal digits, and the bytes and the blocks that they write.
use Rattle.std.specs.Prelude.{ℕ, ◌+◌, ◌*◌, List, [], ◌∷◌, ◌++◌, codes, unwrap_or}
use Rattle.std.specs.List.{concat}
use Rattle.hex.specs.Hex.{encode_lower, hex_digit_value}

-- the value of a digit, in either case
abbrev pub digit_value : ℕ → ℕ
digit_value digit = unwrap_or (hex_digit_value digit) 0

-- the bytes that digits write: two digits a byte, the first worth sixteen
unfoldable pub bytes_of_digits : List ℕ → List ℕ
bytes_of_digits [] = []
bytes_of_digits (digit ∷ []) = []
bytes_of_digits (high ∷ low ∷ digits) =
    (digit_value high * 16 + digit_value low) ∷ bytes_of_digits digits

-- the text of blocks: each byte as two lower-case digits, the upper four bits first, and a newline
-- at the end
abbrev pub text_of_blocks : List (List ℕ) → List ℕ
text_of_blocks blocks = encode_lower (concat blocks) ++ codes "\n"
