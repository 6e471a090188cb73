-- Blocks of eight bytes and their 64 bits determine each other.
use Rattle.std.proofs.Common.{◌≡◌, ℕ, zero, suc, ◌^◌, ◌<◌, List, Bool, length, slice_index, refl, arith, mod-eq_of_lt}
use Rattle.std.specs.Int.{w64, from_be_bytes, to_be_bytes, bytes_high_first, byte_at}
use Rattle.std.proofs.lemmas.Nat.{be_bytes_8}
use Rattle.std.proofs.lemmas.List.{get_or_past}
use Rattle.std.proofs.lemmas.List.Elements.{All-nil, All-cons}
use Rattle.des.specs.Bits.{bits_of_bytes, number_of}
use Rattle.des.specs.Blocks.{AreBytes, IsBlock, block_of_bits}
use Rattle.des.specs.Laws.BitLists.{number_of-bits_of, bits_of-number_of, length-bits_of_bytes, bits_of_bytes-to_be, bits_of_bytes-from_be}

-- a byte of a number is one
byte_at-lt : (k n : ℕ) → byte_at k n < 256
byte_at-lt zero n = omega arith
byte_at-lt (suc k) n = omega arith

-- the bytes of a number are bytes
pub AreBytes-bytes_high_first : (k n : ℕ) → AreBytes (bytes_high_first k n)
AreBytes-bytes_high_first zero n = All-nil (λ byte. byte < 256)
AreBytes-bytes_high_first (suc k) n =
    All-cons (λ byte. byte < 256) (byte_at k n) (bytes_high_first k n) (byte_at-lt k n)
    (AreBytes-bytes_high_first k n)

-- the eight bytes of a word are a block
pub IsBlock-to_be_bytes : (word : ℕ) → IsBlock (to_be_bytes w64 word)
IsBlock-to_be_bytes word = (refl, AreBytes-bytes_high_first 8 word)

-- so is the block of 64 bits
pub IsBlock-block_of_bits : (bits : List Bool) → IsBlock (block_of_bits bits)
unfolding block_of_bits
IsBlock-block_of_bits bits = IsBlock-to_be_bytes (number_of bits)

-- a block has 64 bits
pub length-bits_of_block : (block : List ℕ) → IsBlock block → length (bits_of_bytes block) ≡ 64
length-bits_of_block block is_block = omega (arith, length-bits_of_bytes block)

-- the block of 64 bits has these bits
pub bits_of_bytes-block_of_bits : (bits : List Bool) → length bits ≡ 64
    → bits_of_bytes (block_of_bits bits) ≡ bits
unfolding block_of_bits
bits_of_bytes-block_of_bits bits width =
    rw (bits_of_bytes-to_be (number_of bits), ← width) (bits_of-number_of bits)

-- the number at an index of bytes, or 0 past the end, is a byte
pub slice_index-lt : (bytes : List ℕ) → AreBytes bytes → (i : ℕ) → slice_index bytes i < 256
slice_index-lt bytes are_bytes i = grind (arith, are_bytes i 0, get_or_past bytes i 0)

-- the word that a block's bytes write is below 2 ^ 64
pub from_be_bytes-lt : (block : List ℕ) → IsBlock block → from_be_bytes w64 block < 2 ^ 64
from_be_bytes-lt block is_block =
    let small : (i : ℕ) → slice_index block i < 256 = slice_index-lt block is_block.1 in
    omega (arith, small 0, small 1, small 2, small 3, small 4, small 5, small 6, small 7)

-- it makes the block again
pub to_be_bytes-from_be_bytes : (block : List ℕ) → IsBlock block
    → to_be_bytes w64 (from_be_bytes w64 block) ≡ block
to_be_bytes-from_be_bytes block is_block =
    be_bytes_8 block (from_be_bytes w64 block) is_block.0 (slice_index-lt block is_block.1) refl

-- the bits of a block write the word that its bytes write
number_of-bits_of_block : (block : List ℕ) → IsBlock block
    → number_of (bits_of_bytes block) ≡ from_be_bytes w64 block
number_of-bits_of_block block is_block =
    let small : (i : ℕ) → slice_index block i < 256 = slice_index-lt block is_block.1 in
    rw (bits_of_bytes-from_be block is_block.0 small, number_of-bits_of)
    (mod-eq_of_lt (from_be_bytes-lt block is_block))

-- a block is the block of its bits
pub block_of_bits-bits_of_bytes : (block : List ℕ) → IsBlock block
    → block_of_bits (bits_of_bytes block) ≡ block
unfolding block_of_bits
block_of_bits-bits_of_bytes block is_block =
    be_bytes_8 block (number_of (bits_of_bytes block)) is_block.0 (slice_index-lt block is_block.1)
    (number_of-bits_of_block block is_block)
