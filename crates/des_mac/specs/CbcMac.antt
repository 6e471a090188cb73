-- MAC algorithm 1 of ISO/IEC 9797-1:2011, CBC-MAC, over the encryption of blocks of 8 bytes.
use Rattle.std.specs.Prelude.{ℕ, zero, suc, ◌*◌, ◌/◌, List, length, take, drop, replicate}
use Rattle.des.specs.Cbc.{xor_blocks}

-- a block of zeros
abbrev pub zero_block : List ℕ
zero_block = replicate 8 0

-- the block of the bytes that comes after the first n: D(n + 1)
abbrev pub block_after : List ℕ → ℕ → List ℕ
block_after m n = take 8 (drop (8 * n) m)

-- the chain after the first n blocks: H(n + 1) = E(D(n + 1) ^ H(n)), from H(0), a block of zeros
unfoldable pub chain_after : (List ℕ → List ℕ) → List ℕ → ℕ → List ℕ
chain_after encryption m zero = zero_block
chain_after encryption m (suc n) =
    encryption (xor_blocks (block_after m n) (chain_after encryption m n))

-- the tag of padded bytes, q blocks (7.2): H(q)
unfoldable pub cbc_mac : (List ℕ → List ℕ) → List ℕ → List ℕ
cbc_mac encryption m = chain_after encryption m (length m / 8)
