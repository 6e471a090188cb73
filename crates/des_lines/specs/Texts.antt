-- Texts of digits, and lines.
use Rattle.std.specs.Prelude.{ℕ, ◌*◌, ◌==◌, not, if◌then◌else◌, List, [], ◌++◌, length, codes, Option, Some, None, is_ok}
use Rattle.std.specs.Result.{result_unwrap_or}
use Rattle.hex.specs.Hex.{decode_of, encode_lower}
use Rattle.des_payment.specs.Digits.{digits_of}
use Rattle.des_lines.specs.declared.fault.FaultKind.{FaultKind}

-- the bytes that hexadecimal digits write
abbrev pub bytes_of : List ℕ → List ℕ
bytes_of digits = result_unwrap_or (decode_of digits) []

-- the values of transaction or fill digits
abbrev pub fill_of : List ℕ → List ℕ
fill_of text = digits_of (bytes_of text)

-- the fault of a text that is to be hexadecimal digits, if it has one
abbrev pub text_fault : FaultKind → List ℕ → Option FaultKind
text_fault fault digits = if not (is_ok (decode_of digits)) then Some fault else None

-- the fault of a text that is to be two hexadecimal digits for each of `size` bytes
abbrev pub digits_fault : ℕ → FaultKind → FaultKind → List ℕ → Option FaultKind
digits_fault size length_fault fault digits =
    if not (length digits == 2 * size) then Some length_fault else text_fault fault digits

-- the line of bytes: their lower-case digits
abbrev pub hex_line : List ℕ → List ℕ
hex_line bytes = encode_lower bytes ++ codes "\n"

-- the line of a text
abbrev pub text_line : List ℕ → List ℕ
text_line text = text ++ codes "\n"
