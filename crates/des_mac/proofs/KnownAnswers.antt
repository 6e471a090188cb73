-- The definitions, computed at outside values: OpenSSL's answers by the commands that
-- crates/des_tests/src/libraries/macs.rt gives, and the subkeys of NIST's example for triple DES.
use Rattle.std.proofs.Common.{◌≡◌, ℕ, List, [], ◌++◌, codes, refl}
use Rattle.std.specs.Int.{w64, to_be_bytes}
use Rattle.des.specs.Bits.{bits_of, bits_of_bytes, number_of, select, xor_bits}
use Rattle.des.specs.Blocks.{block_of_bits}
use Rattle.des.specs.Cbc.{xor_blocks}
use Rattle.des.specs.CipherFunction.{box_entry, substitute_by, cipher_function}
use Rattle.des.specs.KeySchedule.{c_half, d_half, rotate, shifts_through, round_key, key_schedule}
use Rattle.des.specs.Rounds.{after_rounds, through_rounds}
use Rattle.des.specs.Des.{encryption, decryption}
use Rattle.des.specs.TripleCiphers.{ede3_encryption}
use Rattle.des_mac.specs.Padding.{zeros_after, one_bit_after, padded}
use Rattle.des_mac.specs.CbcMac.{chain_after, cbc_mac}
use Rattle.des_mac.specs.RetailMac.{retail_mac_of}
use Rattle.des_mac.specs.Cmac.{doubled, masked, masked_message, cmac}

-- the block of sixteen digits
abbrev block : ℕ → List ℕ
block word = to_be_bytes w64 word

abbrev key : List ℕ
key = block 0x0123456789abcdef

abbrev two_keys : List ℕ
two_keys = key ++ block 0xfedcba9876543210

abbrev three_parts : List ℕ
three_parts = block 0x8aa83bf8cbda1062 ++ block 0x0bc1bf19fbb6cd58 ++ block 0xbc313d4a371ca8b5

cbc_mac_of_part_of_a_block : cbc_mac (encryption key) (padded zeros_after (codes "Now is the time for it"))
    ≡ block 0xe45b3ad2b7cc0856
unfolding bits_of bits_of_bytes number_of select xor_bits block_of_bits xor_blocks box_entry substitute_by
    cipher_function c_half d_half rotate shifts_through round_key key_schedule after_rounds through_rounds cbc_mac
    chain_after
cbc_mac_of_part_of_a_block = refl

cbc_mac_of_whole_blocks : cbc_mac (encryption key) (padded one_bit_after (codes "Now is the time for all "))
    ≡ block 0x10e1f0f108341b6d
unfolding bits_of bits_of_bytes number_of select xor_bits block_of_bits xor_blocks box_entry substitute_by
    cipher_function c_half d_half rotate shifts_through round_key key_schedule after_rounds through_rounds cbc_mac
    chain_after
cbc_mac_of_whole_blocks = refl

retail_mac_of_no_bytes : retail_mac_of 8 encryption decryption two_keys (padded one_bit_after [])
    ≡ block 0xf1fbcf2a56d19ba7
unfolding bits_of bits_of_bytes number_of select xor_bits block_of_bits xor_blocks box_entry substitute_by
    cipher_function c_half d_half rotate shifts_through round_key key_schedule after_rounds through_rounds cbc_mac
    chain_after
retail_mac_of_no_bytes = refl

cmac_of_no_bytes : cmac (ede3_encryption three_parts) [] ≡ block 0xb7a688e122ffaf95
unfolding bits_of bits_of_bytes number_of select xor_bits block_of_bits xor_blocks box_entry substitute_by
    cipher_function c_half d_half rotate shifts_through round_key key_schedule after_rounds through_rounds cbc_mac
    chain_after masked_message masked doubled
cmac_of_no_bytes = refl

cmac_of_a_block : cmac (ede3_encryption three_parts) (block 0x6bc1bee22e409f96) ≡ block 0x8e8f293136283797
unfolding bits_of bits_of_bytes number_of select xor_bits block_of_bits xor_blocks box_entry substitute_by
    cipher_function c_half d_half rotate shifts_through round_key key_schedule after_rounds through_rounds cbc_mac
    chain_after masked_message masked doubled
cmac_of_a_block = refl
