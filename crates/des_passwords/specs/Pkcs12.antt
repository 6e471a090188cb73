-- Keys and vectors of PKCS #12 (RFC 7292, appendix B), over a hash function whose blocks have v = 64 bytes and whose
-- digests have u.
use Rattle.std.specs.Prelude.{ℕ, zero, suc, ◌+◌, ◌-◌, ◌*◌, ◌/◌, ◌%◌, ◌^◌, List, [], ◌∷◌, ◌++◌, length, take, replicate, Option, Some, None, if◌then◌else◌}
use Rattle.std.specs.Char.Escape.{encode_utf16}
use Rattle.std.specs.List.{flat_map}
use Rattle.std.specs.Simd.{first_chunks}
use Rattle.std.specs.Str.{chars, is_utf8}
use Rattle.des_passwords.specs.BytesToKey.{repeated}

-- ---- the password (appendix B.1)

-- its characters: those that it spells in UTF-8; if it is no UTF-8, one for each byte, as OpenSSL takes it
unfoldable pub characters_of : List ℕ → List ℕ
characters_of password = if is_utf8 password then chars password else password

-- their units, two of a character beyond U+FFFF as in UTF-16, and the zero that ends a BMPString
abbrev pub units_of : List ℕ → List ℕ
units_of characters = flat_map encode_utf16 characters ++ 0 ∷ []

abbrev pub big_endian : ℕ → List ℕ
big_endian unit = unit / 256 ∷ unit % 256 ∷ []

abbrev pub bmp_string : List ℕ → List ℕ
bmp_string password = flat_map big_endian (units_of (characters_of password))

-- ---- numbers: the first byte is the most significant

unfoldable pub number_of : List ℕ → ℕ
number_of [] = 0
number_of (byte ∷ rest) = byte * 256 ^ length rest + number_of rest

-- a number modulo 256 ^ size, in `size` bytes
unfoldable pub bytes_of : ℕ → ℕ → List ℕ
bytes_of zero n = []
bytes_of (suc size) n = n / 256 ^ size % 256 ∷ bytes_of size n

-- ---- the method (appendix B.2)

-- the first bytes of copies of a text, one after another, where `rest` is left of the first copy
unfoldable pub copies : List ℕ → List ℕ → ℕ → List ℕ
copies text rest zero = []
copies text (byte ∷ rest) (suc n) = byte ∷ copies text rest n
copies [] [] (suc n) = []
copies (byte ∷ text) [] (suc n) = byte ∷ copies (byte ∷ text) text n

-- steps 2 and 3: S of the salt, P of the password, copies of it in the fewest blocks
abbrev pub in_blocks : List ℕ → List ℕ
in_blocks text = copies text text (64 * ((length text + 63) / 64))

-- steps 1, 4 and 6 A: A_i = H^r (D || I), where D is the ID, 64 times
abbrev pub a_of : (List ℕ → List ℕ) → ℕ → ℕ → List ℕ → List ℕ
a_of hash id iterations i = repeated hash iterations (replicate 64 id ++ i)

-- step 6 B: copies of A_i in a block
abbrev pub b_of : List ℕ → List ℕ
b_of a = copies a a 64

-- step 6 C: I_j = (I_j + B + 1) mod 2^v in each block of I, if there is a B
abbrev pub raised_by : Option (List ℕ) → List ℕ → List ℕ
raised_by None block = block
raised_by (Some b) block = bytes_of 64 (number_of block + number_of b + 1)

abbrev pub all_raised_by : Option (List ℕ) → List ℕ → List ℕ
all_raised_by b i = flat_map (raised_by b) (first_chunks 64 (length i / 64) i)

-- step 7: A_1 || A_2 || .. || A_n, from an I
unfoldable pub digests : (List ℕ → List ℕ) → ℕ → ℕ → List ℕ → ℕ → List ℕ
digests hash id iterations i zero = []
digests hash id iterations i (suc n) =
    let a = a_of hash id iterations i in a ++ digests hash id iterations (all_raised_by (Some (b_of a)) i) n

-- steps 5 and 8: the first bytes of A, of as many digests as it takes
abbrev pub pkcs12 : (List ℕ → List ℕ) → ℕ → ℕ → List ℕ → List ℕ → ℕ → ℕ → List ℕ
pkcs12 hash size id password salt iterations length =
    take length
    (digests hash id iterations (in_blocks salt ++ in_blocks (bmp_string password)) ((length + (size - 1)) / size))
