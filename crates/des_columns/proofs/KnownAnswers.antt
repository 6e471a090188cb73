-- The definitions computed at values that servers wrote, so that a wrong constant, order or count in them does not check.
use Rattle.std.proofs.Common.{◌≡◌, ℕ, List, [], ◌∷◌, ◌++◌, Option, Some, None, map, codes, take, drop, replicate, refl}
use Rattle.std.specs.List.{range_with_len}
use Rattle.std.specs.Char.{encode_utf8}
use Rattle.std.specs.Str.{chars, is_utf8}
use Rattle.base64.proofs.OnLiterals.{base64_on_literals}
use Rattle.base64.specs.Engines.{standard}
use Rattle.base64.specs.GeneralPurpose.{encode_of}
use Rattle.md5.specs.Md5.{block_words, rounds, compress, hash_after, digest_bytes, md5}
use Rattle.sha1.specs.Sha1.{first_words, schedule, rounds as rounds_1, compress as compress_1, hash_after as hash_after_1, digest_bytes as digest_bytes_1, sha1}
use Rattle.des.specs.Bits.{bits_of, bits_of_bytes, number_of, select, xor_bits}
use Rattle.des.specs.Blocks.{block_of_bits}
use Rattle.des.specs.Cbc.{xor_blocks}
use Rattle.des.specs.CipherFunction.{box_entry, substitute_by, cipher_function}
use Rattle.des.specs.Des.{encryption}
use Rattle.des.specs.KeySchedule.{c_half, d_half, rotate, shifts_through, round_key, key_schedule}
use Rattle.des.specs.Rounds.{after_rounds, through_rounds}
use Rattle.des.specs.TripleCiphers.{ede3_encryption}
use Rattle.des_passwords.specs.BytesToKey.{d, ds, repeated}
use Rattle.des_passwords.specs.Pkcs12.{bytes_of, characters_of as characters_in, copies, digests, number_of as number_of_bytes}
use Rattle.des_passwords.specs.TextLines.{trimmed}
use Rattle.des_columns.specs.JavaTripleDes.{derived, digested}
use Rattle.des_columns.specs.KeyFile.{lines_after, string_in}
use Rattle.des_columns.specs.Mysql.{key_of, padded}
use Rattle.des_columns.specs.PgcryptoColumns.{filled}
use Rattle.des_columns.specs.Jasypt.{characters_of}
use Rattle.des_columns.specs.Pbe.{derived_by}
use Rattle.des_columns.specs.declared.pbe.Algorithm.TheVariants.{Md5Des, Md5TripleDes, Sha1TripleDes}

-- what a JDK 17 makes of the password `secret` by PBEWithMD5AndTripleDES, where the halves of the salt are equal, in 20 iterations
java_derived : List ℕ
java_derived = derived (codes "secret") (1 ∷ 2 ∷ 3 ∷ 4 ∷ 1 ∷ 2 ∷ 3 ∷ 4 ∷ []) 20

-- what MariaDB 10.11 answers, behind the first byte, one block, chained from zeros: to `des_encrypt('abcdefg', 'k')`; to
-- `des_encrypt('abc', 1)`, where the key file has `1 another key`; and to `des_encrypt('abc')`, whose key is the first of the file,
-- `0 key_zero`. What the JDK makes of `abc`. The first block of what pgcrypto makes of `hello world` by `des` under `1234`, and under
-- `123456789`
known-blocks : ede3_encryption (key_of (codes "k")) (padded (codes "abcdefg"))
    ++ ede3_encryption (key_of (codes "another key")) (padded (codes "abc"))
    ++ ede3_encryption (key_of (codes "key_zero")) (padded (codes "abc"))
    ++ ede3_encryption (take 24 java_derived) (xor_blocks (codes "abc" ++ replicate 5 5) (drop 24 java_derived))
    ++ encryption (filled 8 (codes "1234")) (codes "hello wo") ++ encryption (filled 8 (codes "123456789")) (codes "hello wo")
    ≡ 0xF0 ∷ 0xF1 ∷ 0x9F ∷ 0xAD ∷ 0x28 ∷ 0x3C ∷ 0x97 ∷ 0x14 ∷ 0xFD ∷ 0xBF ∷ 0xE0 ∷ 0x45 ∷ 0xC3 ∷ 0x27 ∷ 0xA5 ∷ 0xF2
    ∷ 0x93 ∷ 0x70 ∷ 0xF9 ∷ 0x10 ∷ 0x0E ∷ 0x6C ∷ 0xAB ∷ 0xCA ∷ 0x0A ∷ 0x6D ∷ 0xDE ∷ 0xC3 ∷ 0x22 ∷ 0xC9 ∷ 0x9C ∷ 0x34
    ∷ 0xA1 ∷ 0x58 ∷ 0xA3 ∷ 0x74 ∷ 0x95 ∷ 0xC5 ∷ 0x7F ∷ 0xA5 ∷ 0x28 ∷ 0xDB ∷ 0xA0 ∷ 0x2E ∷ 0xB5 ∷ 0xF6 ∷ 0xDD ∷ 0x47 ∷ []
unfolding block_words rounds compress hash_after digest_bytes md5 repeated d ds bits_of bits_of_bytes select substitute_by
    box_entry number_of cipher_function xor_bits round_key c_half d_half rotate shifts_through key_schedule after_rounds
    through_rounds block_of_bits digested xor_blocks java_derived
known-blocks = refl

-- the strings that MariaDB takes of a file of keys: the last of 1, none of a line without its end or before a digit
strings_of : List ℕ → List (Option (List ℕ))
strings_of file = map (λ number. string_in number (lines_after [] file)) (range_with_len 0 10)

mysql-strings : strings_of (codes "# keys" ++ 10 ∷ codes "3 three" ++ 10 ∷ codes "0 key_zero" ++ 10 ∷ codes "1   another key" ++ 10 ∷ 10
    ∷ codes "7seven" ++ 10 ∷ codes "9" ++ 9 ∷ 160 ∷ codes "tab and blanks " ++ 1 ∷ 157 ∷ 10 ∷ codes "1 the one that counts" ++ 10
    ∷ codes "5 " ++ 233 ∷ 116 ∷ 233 ∷ 255 ∷ 13 ∷ 10 ∷ codes "0" ++ 10 ∷ codes " 2 two" ++ 10 ∷ codes "4 a" ++ 0 ∷ codes "b" ++ 10
    ∷ codes "8 without an end")
    ≡ Some (codes "key_zero") ∷ Some (codes "the one that counts") ∷ None ∷ Some (codes "three") ∷ Some (codes "a")
    ∷ Some (233 ∷ 116 ∷ 233 ∷ 255 ∷ []) ∷ None ∷ Some (codes "seven") ∷ None ∷ Some (codes "tab and blanks") ∷ []
unfolding strings_of
mysql-strings = refl

-- ---- the definition of Jasypt's strings, at strings that Jasypt 1.9.3 wrote under `secret`

-- by PBEWithMD5AndDES and 1,000 iterations: the salt, and `jdbc password 1`
first_salt : List ℕ
first_salt = 0x5C ∷ 0x52 ∷ 0x37 ∷ 0x1A ∷ 0x43 ∷ 0x87 ∷ 0xBA ∷ 0xF6 ∷ []

first_encrypted : List ℕ
first_encrypted =
    0x94 ∷ 0xAD ∷ 0xE1 ∷ 0xCF ∷ 0x64 ∷ 0xB0 ∷ 0x05 ∷ 0x9F ∷ 0xEC ∷ 0xF1 ∷ 0xF3 ∷ 0x5F ∷ 0xA9 ∷ 0x13 ∷ 0xE8 ∷ 0xCD ∷ []

-- by PBEWithSHA1AndDESede and three iterations: the salt, and `abc`, with padding in Base64
third_salt : List ℕ
third_salt = 0x52 ∷ 0x85 ∷ 0x70 ∷ 0x9A ∷ 0x90 ∷ 0x58 ∷ 0x55 ∷ 0x58 ∷ []

third_encrypted : List ℕ
third_encrypted = 0xFA ∷ 0xF7 ∷ 0xF8 ∷ 0xA8 ∷ 0x78 ∷ 0x04 ∷ 0x63 ∷ 0x9D ∷ []

-- the first string, by itself and as settings have it, since Jasypt passes over white space in any place; and the other
strings-encoded : (encode_of standard (first_salt ++ first_encrypted) ≡ characters_of (codes "XFI3GkOHuvaUreHPZLAFn+zx81+pE+jN"))
    × (encode_of standard (first_salt ++ first_encrypted)
    ≡ characters_of (codes " \tENC( XFI3GkOHuvaUreHPZLAF\r\n n+zx8 1+pE+jN\t)\n"))
    × (encode_of standard (third_salt ++ third_encrypted) ≡ characters_of (codes "UoVwmpBYVVj69/ioeARjnQ=="))
unfolding base64_on_literals trimmed first_salt first_encrypted third_salt third_encrypted
strings-encoded = (refl, refl, refl)

-- the keys and the vectors of those two, and of a string by PBEWithMD5AndTripleDES
first_both : List ℕ
first_both = derived_by Md5Des (codes "secret") first_salt 1000

second_both : List ℕ
second_both = derived_by Md5TripleDes (codes "secret") (0x7C ∷ 0x44 ∷ 0xC4 ∷ 0x88 ∷ 0x09 ∷ 0x99 ∷ 0x09 ∷ 0xDB ∷ []) 3

third_both : List ℕ
third_both = derived_by Sha1TripleDes (codes "secret") third_salt 3

first-blocks : (encryption (take 8 first_both) (xor_blocks (codes "jdbc pas") (drop 8 first_both)) ≡ take 8 first_encrypted)
    × (ede3_encryption (take 24 second_both) (xor_blocks (codes "abc" ++ replicate 5 5) (drop 24 second_both))
    ≡ 0x52 ∷ 0x03 ∷ 0xFA ∷ 0x9F ∷ 0x8A ∷ 0xA8 ∷ 0xE5 ∷ 0x54 ∷ [])
    × (ede3_encryption (take 24 third_both) (xor_blocks (codes "abc" ++ replicate 5 5) (drop 24 third_both)) ≡ third_encrypted)
unfolding block_words rounds compress hash_after digest_bytes md5 digested first_words schedule rounds_1 compress_1 hash_after_1
    digest_bytes_1 sha1 repeated characters_in chars is_utf8 encode_utf8 copies digests number_of_bytes bytes_of bits_of
    bits_of_bytes select substitute_by box_entry number_of cipher_function xor_bits round_key c_half d_half rotate
    shifts_through key_schedule after_rounds through_rounds block_of_bits xor_blocks first_salt first_encrypted first_both
    second_both third_salt third_encrypted third_both
first-blocks = (refl, refl, refl)
