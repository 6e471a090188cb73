-- Private keys under passwords: what is decrypted, and its text.
use Rattle.std.specs.Prelude.{ℕ, ◌+◌, ◌-◌, ◌*◌, ◌^◌, ◌%◌, ◌==◌, ◌&&◌, ◌||◌, nat_lt, nat_le, Bool, true, false, if◌then◌else◌, List, [], ◌∷◌, ◌++◌, length, take, drop, map, codes, Option, Some, None, unwrap_or}
use Rattle.std.specs.Fmt.{decimal}
use Rattle.std.specs.Int.{div_ceil}
use Rattle.std.specs.List.{flat_map, range_with_len}
use Rattle.base64.specs.Engines.{standard}
use Rattle.base64.specs.GeneralPurpose.{encode_of}
use Rattle.hex.specs.Hex.{encode_lower}
use Rattle.des_passwords.specs.TextLines.{are_blanks}
use Rattle.des_passwords.specs.declared.pem.Label.{Label}
use Rattle.des_passwords.specs.declared.pem.Label.TheVariants.{Encrypted, Rsa, Dsa, Ec}

-- ---- what is decrypted

-- the number of bytes before the contents of an element in DER and that of the contents, if one, two or three bytes
-- follow the one that says so
abbrev pub by_one : List ℕ → Option (ℕ × ℕ)
by_one [] = None
by_one (size ∷ rest) = Some (3, size)

abbrev pub by_two : List ℕ → Option (ℕ × ℕ)
by_two [] = None
by_two (high ∷ []) = None
by_two (high ∷ low ∷ rest) = Some (4, 256 * high + low)

abbrev pub by_three : List ℕ → Option (ℕ × ℕ)
by_three [] = None
by_three (high ∷ []) = None
by_three (high ∷ middle ∷ []) = None
by_three (high ∷ middle ∷ low ∷ rest) = Some (5, 65536 * high + 256 * middle + low)

-- the same of any element (ITU-T X.690, 8.1.3), if its length has four bytes at most
abbrev pub extent_of : List ℕ → Option (ℕ × ℕ)
extent_of [] = None
extent_of (tag ∷ []) = None
extent_of (tag ∷ size ∷ rest) =
    if nat_lt size 128 then Some (2, size)
    else if size == 129 then by_one rest
    else if size == 130 then by_two rest
    else if size == 131 then by_three rest
    else None

abbrev pub has_extent : ℕ → Option (ℕ × ℕ) → Bool
has_extent size None = false
has_extent size (Some extent) = size == extent.0 + extent.1

abbrev pub begins_sequence : List ℕ → Bool
begins_sequence [] = false
begins_sequence (tag ∷ rest) = tag == 48

-- all of the bytes are one sequence
abbrev pub is_sequence : List ℕ → Bool
is_sequence bytes = begins_sequence bytes && has_extent (length bytes) (extent_of bytes)

-- they begin as a sequence whose length is not one byte alone
abbrev pub begins_long_sequence : List ℕ → Bool
begins_long_sequence [] = false
begins_long_sequence (tag ∷ []) = false
begins_long_sequence (tag ∷ size ∷ rest) = (tag == 48) && nat_le 128 size

-- they begin with one sequence, and blanks alone follow
abbrev pub are_blanks_from : ℕ → List ℕ → Bool
are_blanks_from place bytes = nat_le place (length bytes) && are_blanks (drop place bytes)

abbrev pub are_blanks_after : Option (ℕ × ℕ) → List ℕ → Bool
are_blanks_after None bytes = false
are_blanks_after (Some extent) bytes = are_blanks_from (extent.0 + extent.1) bytes

abbrev pub begins_with_sequence_alone : List ℕ → Bool
begins_with_sequence_alone bytes = begins_sequence bytes && are_blanks_after (extent_of bytes) bytes

-- a file is DER: it is one sequence, which blanks may follow, or it begins as a long one
abbrev pub is_der : List ℕ → Bool
is_der bytes = begins_with_sequence_alone bytes || begins_long_sequence bytes

-- ---- object identifiers (ITU-T X.690, 8.19)

-- a first number holds the first two arcs, of which the first is 0, 1 or 2, and the second below 40 after 0 and 1
abbrev pub first_arc : ℕ → ℕ
first_arc number = if nat_lt number 40 then 0 else if nat_lt number 80 then 1 else 2

abbrev pub first_arcs : ℕ → List ℕ
first_arcs number = decimal (first_arc number) ++ (codes "." ++ decimal (number - 40 * first_arc number))

-- a text of arcs with a number more
abbrev pub with_number : List ℕ → ℕ → List ℕ
with_number text number =
    if length text == 0 then first_arcs number else text ++ (codes "." ++ decimal number)

-- the text of the octets that are left, after those of a text and of a number that goes on: seven bits in each, and the
-- first bit is 0 in a number's last; none if a number has more than 56 bits, or does not end
unfoldable pub arcs_after : (text : List ℕ) (number : ℕ) (is_whole : Bool) → List ℕ → Option (List ℕ)
arcs_after text number is_whole [] = if is_whole then Some text else None
arcs_after text number is_whole (octet ∷ rest) =
    if nat_lt number (2 ^ 56) then
    (if nat_lt octet 128 then arcs_after (with_number text (128 * number + octet % 128)) 0 true rest
    else arcs_after text (128 * number + octet % 128) false rest)
    else None

-- its arcs with points between, or its octets in hexadecimal digits
abbrev pub object_identifier_text : List ℕ → List ℕ
object_identifier_text contents = unwrap_or (arcs_after [] 0 false contents) (encode_lower contents)

-- ---- PEM (RFC 7468)

-- the end of the first line and of the last, of a key that is not encrypted
abbrev pub label_text : Label → List ℕ
label_text Encrypted = codes "PRIVATE KEY-----\n"
label_text Rsa = codes "RSA PRIVATE KEY-----\n"
label_text Dsa = codes "DSA PRIVATE KEY-----\n"
label_text Ec = codes "EC PRIVATE KEY-----\n"

-- the first lines of 64 characters, the last of which may have fewer
abbrev pub first_lines : List ℕ → (count : ℕ) → List ℕ
first_lines text count =
    flat_map (λ line. line ++ codes "\n") (map (λ number. take 64 (drop (64 * number) text)) (range_with_len 0 count))

abbrev pub base64_lines : List ℕ → List ℕ
base64_lines text = first_lines text (div_ceil (length text) 64)

abbrev pub pem_of : Label → List ℕ → List ℕ
pem_of label key =
    codes "-----BEGIN " ++ (label_text label ++ (base64_lines (encode_of standard key)
    ++ (codes "-----END " ++ label_text label)))
