-- Ciphers that keep the laws and hide nothing, for generic code: what they make of a block, and the lemmas
-- that their laws stand on.
use Rattle.std.proofs.Common.{◌≡◌, ℕ, ◌%◌, ◌^◌, ◌<◌, ◌-◌, List, length, reverse, refl, ◌∙◌, arith, bit_xor, mod-eq_of_lt}
use Rattle.std.specs.Int.{w64, to_be_bytes, from_be_bytes}
use Rattle.std.specs.Int.Bits.{xor_self, xor_assoc, xor_zero_r}
use Rattle.std.proofs.lemmas.Nat.{xor_lt, from_be_bytes-to_be_bytes_8}
use Rattle.std.proofs.lemmas.List.{length-reverse, get_or-reverse}
use Rattle.std.proofs.lemmas.List.Elements.{All-from_get_or}
use Rattle.des_rows.specs.declared.odd_ciphers.xor_key.XorKey.{XorKey}
use Rattle.des.specs.Blocks.{IsBlock}
use Rattle.des.specs.Laws.BlockBits.{IsBlock-to_be_bytes, from_be_bytes-lt, to_be_bytes-from_be_bytes}

-- the bytes of the key of an `XorKey`
abbrev pub key_of : XorKey → List ℕ
key_of cipher = cipher.key

-- the block whose word is that of a block xor that of a key. In a law a key may be any list of
-- numbers, so the lowest 64 bits of what it writes are taken
unfoldable pub xored : List ℕ → List ℕ → List ℕ
xored key block = to_be_bytes w64 (bit_xor (from_be_bytes w64 block) (from_be_bytes w64 key % 2 ^ 64))

-- the xor with a key is a block
pub IsBlock-xored : (key block : List ℕ) → IsBlock (xored key block)
unfolding xored
IsBlock-xored key block = IsBlock-to_be_bytes (bit_xor (from_be_bytes w64 block) (from_be_bytes w64 key % 2 ^ 64))

-- twice the same key makes the block again
pub xored-xored : (key block : List ℕ) → IsBlock block → xored key (xored key block) ≡ block
unfolding xored
xored-xored key block is_block =
    let k : ℕ = from_be_bytes w64 key % 2 ^ 64 in
    let b : ℕ = from_be_bytes w64 block in
    let below : bit_xor b k < 2 ^ 64 = xor_lt 64 b k (from_be_bytes-lt block is_block) (omega arith) in
    rw (from_be_bytes-to_be_bytes_8 (bit_xor b k) below, xor_assoc b k k, xor_self k, xor_zero_r b)
    (to_be_bytes-from_be_bytes block is_block)

-- the bytes of the xor of two words are the xor of their bytes
pub xored-words : (key block : List ℕ) (k b : ℕ) → k < 2 ^ 64 → k ≡ from_be_bytes w64 key → b ≡ from_be_bytes w64 block
    → to_be_bytes w64 (bit_xor b k) ≡ xored key block
unfolding xored
xored-words key block k b below k_same b_same = rw (← b_same, ← k_same, mod-eq_of_lt below) refl

-- the bytes of a block in the opposite order are a block
pub IsBlock-reverse : (block : List ℕ) → IsBlock block → IsBlock (reverse block)
IsBlock-reverse block is_block =
    let count : length (reverse block) ≡ length block = length-reverse block in (
      count ∙ is_block.0,
      All-from_get_or (λ byte. byte < 256) (reverse block) 0 (λ i within.
          rw (get_or-reverse block i 0 (omega (arith, count)))
          (is_block.1 (length block - 1 - i) 0 (omega (arith, count)))),
    )
