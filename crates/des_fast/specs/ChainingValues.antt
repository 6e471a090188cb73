-- Last chaining values of chains through blocks: the chain of CBC and of the MACs that stand on it; and output blocks.
use Rattle.std.specs.Prelude.{◌≡◌, ℕ, zero, suc, ◌<◌, List, [], length, slice_index_or, replicate}
use Rattle.des.specs.Cbc.{xor_blocks}

-- the chain from a block on after n blocks: H(j + 1) = E(D(j + 1) ^ H(j)), with D(j + 1) the block
-- at j
unfoldable pub chain_from : (List ℕ → List ℕ) → List ℕ → (ℕ → List ℕ) → ℕ → List ℕ
chain_from encryption first block_of zero = first
chain_from encryption first block_of (suc n) =
    encryption (xor_blocks (block_of n) (chain_from encryption first block_of n))

-- each block is the end of the chain from the one that stood in its place, through the blocks of the
-- list of its number, by the encryption of that number
abbrev pub AreChainingValues : (ℕ → List ℕ → List ℕ) → (ℕ → ℕ → List ℕ) → (ℕ → ℕ) → List (List ℕ)
    → List (List ℕ) → Type 0
AreChainingValues encryption block_of count_of firsts ends =
    (k : ℕ) → k < length firsts
    → slice_index_or ends k []
    ≡ chain_from (encryption k) (slice_index_or firsts k []) (block_of k) (count_of k)

-- the answers of a list of keys, the one at place k
abbrev pub under_key : (List ℕ → List ℕ → List ℕ) → List (List ℕ) → ℕ → List ℕ → List ℕ
under_key answer keys k = answer (slice_index_or keys k [])

-- what the register of OFB and of CFB of 64 bits (FIPS 81) holds before O(n), from 0: the initialization vector, and then
-- P(n-1) ^ O(n-1). The plaintext P has zeros behind its end: that of OFB is empty
abbrev pub register_before : List ℕ → (p o : List (List ℕ)) → ℕ → List ℕ
register_before iv p o zero = iv
register_before iv p o (suc n) = xor_blocks (slice_index_or p n (replicate 8 0)) (slice_index_or o n [])

-- their output blocks: O(n) is E of the register
abbrev pub AreOutputs : (List ℕ → List ℕ) → List ℕ → (p o : List (List ℕ)) → Type 0
AreOutputs encryption iv p o = (n : ℕ) → n < length o → slice_index_or o n [] ≡ encryption (register_before iv p o n)
