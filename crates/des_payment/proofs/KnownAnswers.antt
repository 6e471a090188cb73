-- The definitions, computed at published values.
use Rattle.std.proofs.Common.{◌≡◌, ℕ, ◌+◌, List, ◌∷◌, ◌++◌, map, take, replicate, slice_index, codes, refl}
use Rattle.std.specs.Int.{w64, to_be_bytes}
use Rattle.des.specs.Bits.{bits_of, bits_of_bytes, number_of, select, xor_bits}
use Rattle.des.specs.Blocks.{block_of_bits}
use Rattle.des.specs.Cbc.{xor_blocks}
use Rattle.des.specs.CipherFunction.{box_entry, substitute_by, cipher_function}
use Rattle.des.specs.KeySchedule.{c_half, d_half, rotate, shifts_through, round_key, key_schedule}
use Rattle.des.specs.Rounds.{after_rounds, through_rounds}
use Rattle.des_payment.specs.Digits.{digits_of, bytes_of}
use Rattle.des_payment.specs.Texts.{values, text_of}
use Rattle.des_payment.specs.PinBlocks.{pin_field, account_field}
use Rattle.des_payment.specs.PinVerification.{pvv, offset_between, sum_of}
use Rattle.des_payment.specs.Dukpt.{transaction_key, next_key, ones_below, derived}

-- eight bytes, and sixteen, as words
abbrev bytes : ℕ → List ℕ
bytes word = to_be_bytes w64 word

abbrev key : ℕ → ℕ → List ℕ
key left right = bytes left ++ bytes right

-- the PIN 1234 with the account number 4012345678909, in format 0
format_0-example : digits_of (bytes 0x041274edcba9876f)
    ≡ xor_blocks (pin_field 0 (codes "1234") (replicate 10 15)) (account_field (codes "4012345678909"))
unfolding digits_of xor_blocks
format_0-example = refl

-- a key serial number of the published example, by its last four bytes
abbrev serial : ℕ → List ℕ
serial last = 0xff ∷ 0xff ∷ bytes (0x9876543200000000 + last)

-- the key of a transaction with one bit in its counter, from the initial key
transaction_key-one_bit : transaction_key (key 0x6ac292faa1315b4d 0x858ab3a3d7d5933a) (serial 0x10e00001)
    ≡ key 0x042666b49184cfa3 0x68de9628d0397bc9
unfolding bits_of bits_of_bytes select substitute_by box_entry number_of cipher_function xor_bits
    round_key c_half d_half rotate shifts_through key_schedule after_rounds through_rounds block_of_bits xor_blocks
    next_key ones_below derived
transaction_key-one_bit = refl

-- a PIN block with an account number of eight digits, in format 0: seven of them without the check
-- digit, after five zeros
format_0-short : digits_of (bytes 0x041234fffedcba98)
    ≡ xor_blocks (pin_field 0 (codes "1234") (replicate 10 15)) (account_field (codes "12345678"))
unfolding digits_of xor_blocks
format_0-short = refl

-- the PIN of twelve digits, in format 2
format_2-example : digits_of (bytes 0x2c123456789012ff) ≡ pin_field 2 (codes "123456789012") (replicate 10 15)
unfolding digits_of
format_2-example = refl

-- a published example of the IBM 3624: an encrypted account number, the plain table, the natural PIN,
-- an offset and the PIN
table : List ℕ
table = values (codes "0123456789012345")

natural_pin-example : text_of (take 4 (map (slice_index table) (digits_of (bytes 0x3f7c220100ca8ab3)))) ≡ codes "3572"
unfolding digits_of table
natural_pin-example = refl

sum_of-example : sum_of (codes "3572") (codes "4344") ≡ codes "7816"
sum_of-example = refl

offset_between-example : offset_between (codes "3572") (codes "7816") ≡ codes "4344"
offset_between-example = refl

-- a PIN verification value by OpenSSL's des-ede
pvv-example : pvv (key 0x0123456789abcdef 0xfedcba9876543210) (codes "4123456789012345") 1 (codes "1234") ≡ codes "1894"
unfolding bits_of bits_of_bytes select substitute_by box_entry number_of cipher_function xor_bits
    round_key c_half d_half rotate shifts_through key_schedule after_rounds through_rounds block_of_bits xor_blocks
    digits_of bytes_of
pvv-example = refl
