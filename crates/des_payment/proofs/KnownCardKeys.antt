-- The keys of cards, computed at a published value, and at values of Python's hashlib and OpenSSL's cipher.
use Rattle.std.proofs.Common.{◌≡◌, ℕ, List, ◌++◌, codes, refl}
use Rattle.std.specs.Int.{w64, to_be_bytes}
use Rattle.std.specs.Int.RustNames.{count_ones}
use lib.Count.{ones_in}
use Rattle.sha1.specs.Sha1.{first_words, schedule, rounds, compress, hash_after, digest_bytes, sha1}
use Rattle.des.specs.Bits.{bits_of, bits_of_bytes, number_of, select, xor_bits}
use Rattle.des.specs.Blocks.{block_of_bits}
use Rattle.des.specs.Cbc.{xor_blocks}
use Rattle.des.specs.CipherFunction.{box_entry, substitute_by, cipher_function}
use Rattle.des.specs.KeySchedule.{c_half, d_half, rotate, shifts_through, round_key, key_schedule}
use Rattle.des.specs.Rounds.{after_rounds, through_rounds}
use Rattle.des_payment.specs.Digits.{digits_of, bytes_of}
use Rattle.des_payment.specs.CardCryptograms.{hashed_block, card_key, card_key_b}

-- sixteen bytes, as two words
abbrev key : ℕ → ℕ → List ℕ
key left right = to_be_bytes w64 left ++ to_be_bytes w64 right

card_key-example : card_key (key 0x0123456789abcdef 0xfedcba9876543210) (codes "99012345678901234") (codes "45")
    ≡ key 0x67f8292358083e5e 0xa7ab7fda58d53b6b
unfolding bits_of bits_of_bytes select substitute_by box_entry number_of cipher_function xor_bits
    round_key c_half d_half rotate shifts_through key_schedule after_rounds through_rounds block_of_bits xor_blocks
    bytes_of count_ones ones_in
card_key-example = refl

-- the hash has 25 digits below ten; the count of both numbers' digits is odd
card_key_b-example : card_key_b (key 0x0123456789abcdef 0xfedcba9876543210) (codes "99012345678901234") (codes "45")
    ≡ key 0x985ec4fd3edf6162 0xe31af1c7d0543416
unfolding first_words schedule rounds compress hash_after digest_bytes sha1 digits_of
    bits_of bits_of_bytes select substitute_by box_entry number_of cipher_function xor_bits
    round_key c_half d_half rotate shifts_through key_schedule after_rounds through_rounds block_of_bits xor_blocks
    bytes_of count_ones ones_in
card_key_b-example = refl

-- the hash, 8dff9aaa0aa10ebedc4ef3cc3f19dfcef15c6af8, has fourteen
hashed_block-few : hashed_block (codes "400000000000000033") (codes "00") ≡ to_be_bytes w64 0x8901043319156835
unfolding first_words schedule rounds compress hash_after digest_bytes sha1 digits_of bytes_of
hashed_block-few = refl
