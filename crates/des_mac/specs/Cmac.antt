-- CMAC (NIST SP 800-38B) over the encryption of blocks of 8 bytes.
use Rattle.std.specs.Prelude.{ℕ, ◌-◌, ◌*◌, ◌%◌, ◌^◌, nat_lt, nat_eq, List, ◌++◌, length, take, drop, bit_xor, if◌then◌else◌}
use Rattle.std.specs.Int.{w64, from_be_bytes, to_be_bytes}
use Rattle.des.specs.Cbc.{xor_blocks}
use Rattle.des_mac.specs.Padding.{block_count, one_bit_after, padded}
use Rattle.des_mac.specs.CbcMac.{zero_block, cbc_mac}

-- a block doubled (6.1): its bits moved by one to the left, and if a one bit leaves, the last
-- byte xored with 00011011
unfoldable pub doubled : List ℕ → List ℕ
doubled block =
    let word = from_be_bytes w64 block in
    let moved = word * 2 % 2 ^ 64 in
    to_be_bytes w64 (if nat_lt word (2 ^ 63) then moved else bit_xor moved 0b00011011)

-- the subkeys K1 and K2 (6.1), where l is the block of zeros encrypted
abbrev pub subkey_1 : List ℕ → List ℕ
subkey_1 l = doubled l

abbrev pub subkey_2 : List ℕ → List ℕ
subkey_2 l = doubled (subkey_1 l)

-- whole blocks, the last one xored with a subkey
unfoldable pub masked : List ℕ → List ℕ → List ℕ
masked subkey m = take (length m - 8) m ++ xor_blocks (drop (length m - 8) m) subkey

-- the bytes that are chained (6.2): the last block is xored with K1 if it is whole, and else
-- padded by a one bit and zeros and xored with K2
unfoldable pub masked_message : List ℕ → List ℕ → List ℕ
masked_message l m =
    if nat_eq (length m) (block_count (length m) * 8) then masked (subkey_1 l) m
    else masked (subkey_2 l) (padded one_bit_after m)

-- the tag of bytes (6.2)
abbrev pub cmac : (List ℕ → List ℕ) → List ℕ → List ℕ
cmac encryption m = cbc_mac encryption (masked_message (encryption zero_block) m)
