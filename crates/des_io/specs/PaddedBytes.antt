-- Padding of a list of bytes to whole blocks of eight.
use Rattle.std.specs.Prelude.{ℕ, ◌-◌, ◌%◌, List, [], ◌∷◌, ◌++◌, length, replicate}
use Rattle.des_io.specs.declared.padding.Padding.{Padding}
use Rattle.des_io.specs.declared.padding.Padding.TheVariants.{Pkcs7, Iso7816, Zeros, Unpadded}

-- what is put after bytes, by their number past the last whole block: of PKCS#7 (RFC 5652, section
-- 6.3) the n bytes that complete a block, at least one, each with the value n; of ISO/IEC 7816-4 a
-- byte 80 in hexadecimal digits, and the zeros that complete a block; and of zeros those alone, none
-- after whole blocks
abbrev pub padding_after : Padding → ℕ → List ℕ
padding_after Pkcs7 past = replicate (8 - past) (8 - past)
padding_after Iso7816 past = 128 ∷ replicate (7 - past) 0
padding_after Zeros past = replicate ((8 - past) % 8) 0
padding_after Unpadded past = []

-- bytes with their padding
abbrev pub padded : Padding → List ℕ → List ℕ
padded padding bytes = bytes ++ padding_after padding (length bytes % 8)

-- the padding that decryption takes off: none of zeros, which nothing tells from data
abbrev pub taken_off : Padding → Padding
taken_off Pkcs7 = Pkcs7
taken_off Iso7816 = Iso7816
taken_off Zeros = Unpadded
taken_off Unpadded = Unpadded
