-- PKCS #12's method computed at published values, so that a wrong constant, order or count in it does not check.
use Rattle.std.proofs.Common.{◌≡◌, [], ◌∷◌, codes, refl}
use Rattle.std.specs.Str.{chars, is_utf8}
use Rattle.std.specs.Char.{encode_utf8}
use Rattle.sha1.specs.Sha1.{first_words, schedule, rounds, compress, hash_after, digest_bytes, sha1}
use Rattle.des_passwords.specs.BytesToKey.{repeated}
use Rattle.des_passwords.specs.Pkcs12.{bmp_string, bytes_of, characters_of, copies, digests, number_of, pkcs12}

-- a password in UTF-8, with a character that has two units; and its first four bytes, which are no UTF-8
bmp-utf8 : bmp_string (0x47 ∷ 0xC3 ∷ 0xBC ∷ 0xF0 ∷ 0x9D ∷ 0x84 ∷ 0x9E ∷ [])
    ≡ 0x00 ∷ 0x47 ∷ 0x00 ∷ 0xFC ∷ 0xD8 ∷ 0x34 ∷ 0xDD ∷ 0x1E ∷ 0x00 ∷ 0x00 ∷ []
unfolding characters_of chars is_utf8 encode_utf8
bmp-utf8 = refl

bmp-bytes : bmp_string (0x47 ∷ 0xC3 ∷ 0xBC ∷ 0xF0 ∷ []) ≡ 0x00 ∷ 0x47 ∷ 0x00 ∷ 0xC3 ∷ 0x00 ∷ 0xBC ∷ 0x00 ∷ 0xF0 ∷ 0x00 ∷ 0x00 ∷ []
unfolding characters_of chars is_utf8 encode_utf8
bmp-bytes = refl

-- a key and a vector of OpenSSL's tests (test/recipes/30-test_evp_data/evpkdf.txt): the password is `smeg`
key-once : pkcs12 sha1 20 1 (codes "smeg") (0x0A ∷ 0x58 ∷ 0xCF ∷ 0x64 ∷ 0x53 ∷ 0x0D ∷ 0x82 ∷ 0x3F ∷ []) 1 24
    ≡ 0x8A ∷ 0xAA ∷ 0xE6 ∷ 0x29 ∷ 0x7B ∷ 0x6C ∷ 0xB0 ∷ 0x46 ∷ 0x42 ∷ 0xAB ∷ 0x5B ∷ 0x07
    ∷ 0x78 ∷ 0x51 ∷ 0x28 ∷ 0x4E ∷ 0xB7 ∷ 0x12 ∷ 0x8F ∷ 0x1A ∷ 0x2A ∷ 0x7F ∷ 0xBC ∷ 0xA3 ∷ []
unfolding first_words schedule rounds compress hash_after digest_bytes sha1 repeated characters_of chars is_utf8 encode_utf8
    copies digests number_of bytes_of
key-once = refl

vector-once : pkcs12 sha1 20 2 (codes "smeg") (0x0A ∷ 0x58 ∷ 0xCF ∷ 0x64 ∷ 0x53 ∷ 0x0D ∷ 0x82 ∷ 0x3F ∷ []) 1 8
    ≡ 0x79 ∷ 0x99 ∷ 0x3D ∷ 0xFE ∷ 0x04 ∷ 0x8D ∷ 0x3B ∷ 0x76 ∷ []
unfolding first_words schedule rounds compress hash_after digest_bytes sha1 repeated characters_of chars is_utf8 encode_utf8
    copies digests number_of bytes_of
vector-once = refl

-- three iterations of a password with those characters, by `openssl kdf`
key-thrice : pkcs12 sha1 20 1 (0x47 ∷ 0x72 ∷ 0xC3 ∷ 0xBC ∷ 0xC3 ∷ 0x9F ∷ 0x65 ∷ 0x20 ∷ 0xF0 ∷ 0x9D ∷ 0x84 ∷ 0x9E ∷ [])
    (1 ∷ 2 ∷ 3 ∷ 4 ∷ 5 ∷ 6 ∷ 7 ∷ 8 ∷ []) 3 24
    ≡ 0xC4 ∷ 0xF3 ∷ 0x79 ∷ 0x15 ∷ 0x90 ∷ 0x17 ∷ 0x7F ∷ 0xDA ∷ 0x09 ∷ 0xD2 ∷ 0x5F ∷ 0x1E
    ∷ 0xF8 ∷ 0x78 ∷ 0x0A ∷ 0x7B ∷ 0x2C ∷ 0x55 ∷ 0x91 ∷ 0x8F ∷ 0x8A ∷ 0xE9 ∷ 0xFB ∷ 0x5A ∷ []
unfolding first_words schedule rounds compress hash_after digest_bytes sha1 repeated characters_of chars is_utf8 encode_utf8
    copies digests number_of bytes_of
key-thrice = refl
