-- Strings of Jasypt 1.9.3, in settings inside `ENC(` and `)`: in Base64 a salt of eight bytes, and behind it what is
-- encrypted (StandardPBEStringEncryptor, StandardPBEByteEncryptor, PropertyValueEncryptionUtils).
use Rattle.std.specs.Prelude.{◌≡◌, ◌<◌, ◌≤◌, ◌⊎◌, ℕ, ℤ, ◌+◌, ◌-◌, ◌*◌, ◌/◌, ◌&&◌, Bool, not, nat_eq, if◌then◌else◌, List, [], ◌++◌, codes, length, take, drop}
use Rattle.std.specs.Char.{is_ascii_whitespace}
use Rattle.std.specs.List.{ends_with, filter, starts_with}
use Rattle.std.specs.Simd.Lanes.{zip2}
use Rattle.base64.specs.Engines.{standard}
use Rattle.base64.specs.GeneralPurpose.{encode_of}
use Rattle.des.specs.Blocks.{AreBytes}
use Rattle.des.specs.Enciphering.{Enciphers}
use Rattle.des.specs.Triple.{EnciphersEde2, EnciphersEde3}
use Rattle.des_passwords.specs.TextLines.{trimmed}
use Rattle.des_columns.specs.Pbe.{derived_by, key_size}
use Rattle.des_columns.specs.Readings.{IsReading}
use Rattle.des_columns.specs.Writings.{IsWriting}
use Rattle.des_columns.specs.declared.form.BlockMode.TheVariants.{Cbc}
use Rattle.des_columns.specs.declared.form.ValueForm.TheVariants.{Pkcs7}
use Rattle.des_columns.specs.declared.pbe.Algorithm.{Algorithm}
use Rattle.des_columns.specs.declared.pbe.Algorithm.TheVariants.{Md5Des, Sha1Des, Sha1TwoKeys}
use Rattle.des_columns.specs.declared.status.TheConstants.{ERR_BASE64, ERR_SALT_LENGTH}

-- ---- the text of a value

-- what stands inside `ENC(` and `)`, or all of it
abbrev pub is_enclosed : List ℕ → Bool
is_enclosed value = starts_with nat_eq value (codes "ENC(") && ends_with nat_eq (drop 4 value) (codes ")")

abbrev pub inside : List ℕ → List ℕ
inside value = if is_enclosed value then take (length value - 5) (drop 4 value) else value

-- the characters of Base64: white space around the value, and within it, does not count
abbrev pub is_character : ℕ → Bool
is_character byte = not (is_ascii_whitespace byte)

abbrev pub characters_of : List ℕ → List ℕ
characters_of value = filter is_character (inside (trimmed value))

-- characters encode bytes (RFC 4648, section 4)
abbrev pub Encodes : List ℕ → List ℕ → Type 0
Encodes bytes characters = AreBytes bytes × (characters ≡ encode_of standard bytes)

-- ---- a value under a password, by an algorithm

-- DES under a key of eight bytes, triple DES under others
abbrev pub relation_by : Algorithm → List ℕ → List ℕ → List ℕ → Type 0
relation_by Md5Des key = Enciphers key
relation_by Sha1Des key = Enciphers key
relation_by Sha1TwoKeys key = EnciphersEde2 key
relation_by by key = EnciphersEde3 key

-- what is encrypted, by a key and the vector behind it: CBC, and the padding of PKCS#7
abbrev pub ReadsBy : Algorithm → List ℕ → List ℕ → ℤ → List ℕ → Type 0
ReadsBy by both encrypted status text =
    IsReading Pkcs7 (Cbc (drop (key_size by) both)) (relation_by by (take (key_size by) both)) encrypted status text

-- a value that has no text
abbrev pub IsFault : ℤ → ℤ → List ℕ → Type 0
IsFault fault status text = (status ≡ fault) × (text ≡ [])

abbrev pub ReadsBytes : Algorithm → ℕ → List ℕ → List ℕ → ℤ → List ℕ → Type 0
ReadsBytes by count password bytes status text =
    ((length bytes < 8) × IsFault ERR_SALT_LENGTH status text)
    ⊎ ((8 ≤ length bytes) × ReadsBy by (derived_by by password (take 8 bytes) count) (drop 8 bytes) status text)

abbrev pub Reads : Algorithm → ℕ → List ℕ → List ℕ → ℤ → List ℕ → Type 0
Reads by count password value status text =
    (((bytes : List ℕ) → ¬ (Encodes bytes (characters_of value))) × IsFault ERR_BASE64 status text)
    ⊎ ((bytes : List ℕ) × Encodes bytes (characters_of value) × ReadsBytes by count password bytes status text)

-- ---- a value that is written of a text

abbrev pub WritesBy : Algorithm → List ℕ → List ℕ → List ℕ → Type 0
WritesBy by both text encrypted =
    IsWriting Pkcs7 0 (Cbc (drop (key_size by) both)) (relation_by by (take (key_size by) both)) text encrypted

-- each text behind its salt of eight bytes
abbrev pub salted : List (List ℕ) → List (List ℕ) → List (List ℕ)
salted salts texts = zip2 ◌++◌ salts texts

-- how many characters the value of a salt and a text has, of together `size` bytes: the text is padded, and what three bytes are,
-- or the last ones, four characters encode
abbrev pub value_size : ℕ → ℕ
value_size size = ((size / 8 + 1) * 8 + 2) / 3 * 4

-- the value of a text behind its salt
pub record IsWritten (by : Algorithm) (count : ℕ) (password salted value : List ℕ) : Type 0 where
  pub encrypted : List ℕ
  pub writes : WritesBy by (derived_by by password (take 8 salted) count) (drop 8 salted) encrypted
  pub value_is : value ≡ encode_of standard (take 8 salted ++ encrypted)
