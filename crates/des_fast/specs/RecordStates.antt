-- Records that are chained, or taken out of their chains, in part: the chains began from `first`, `vectors` is where
-- they are, and `blocks` is the list so far.
use Rattle.std.specs.Prelude.{◌≡◌, ◌≢◌, ℕ, zero, suc, ◌+◌, ◌-◌, ◌<◌, ◌≤◌, List, [], length, min, slice_index, slice_index_or}
use Rattle.des.specs.Cbc.{xor_blocks}
use Rattle.des_fast.specs.Records.{start}

-- record k has the block at a place
pub record HasBlock (sizes : List ℕ) (k place : ℕ) : Type 0 where
  pub there : k < length sizes
  pub from : start sizes k ≤ place
  pub to : place < start sizes k + slice_index sizes k

-- the chain after n blocks of a record, by an encryption, where the record begins at a place of the plaintext
unfoldable pub chain_after : (List ℕ → List ℕ) → List ℕ → List (List ℕ) → ℕ → ℕ → List ℕ
chain_after encryption vector p place zero = vector
chain_after encryption vector p place (suc n) =
    encryption (xor_blocks (slice_index_or p (place + n) []) (chain_after encryption vector p place n))

-- the ciphertext block before block n, from 0, of a record that begins at a place of the ciphertext, or the vector
abbrev pub cipher_before : List ℕ → List (List ℕ) → ℕ → ℕ → List ℕ
cipher_before vector q place zero = vector
cipher_before vector q place (suc n) = slice_index_or q (place + n) []

-- of a record of `size` blocks from a place on, the first n are made, block j as `made j`, the others are as they were,
-- and the vector is `link n`
pub record IsAnswered (link made : ℕ → List ℕ) (old blocks : List (List ℕ)) (place size : ℕ) (vector : List ℕ)
    (n : ℕ) : Type 0 where
  pub end : vector ≡ link n
  pub answered : (j : ℕ) → j < n → slice_index_or blocks (place + j) [] ≡ made j
  pub left : (j : ℕ) → n ≤ j → j < size → slice_index_or blocks (place + j) [] ≡ slice_index_or old (place + j) []

-- the first n blocks of record k are chained
abbrev pub IsChained : (List ℕ → List ℕ) → List ℕ → List (List ℕ) → List (List ℕ) → List (List ℕ)
    → List (List ℕ) → ℕ → ℕ → Type 0
IsChained encryption sizes first p vectors blocks k n =
    let chain : ℕ → List ℕ = chain_after encryption (slice_index_or first k []) p (start sizes k) in
    IsAnswered chain (λ j. chain (suc j)) p blocks (start sizes k) (slice_index sizes k) (slice_index_or vectors k []) n

-- the records below m are chained, and the others are as they were
pub record AreChainedBelow (encryption : List ℕ → List ℕ) (sizes : List ℕ) (first p vectors blocks : List (List ℕ))
    (m : ℕ) : Type 0 where
  pub done : (k : ℕ) → k < m → IsChained encryption sizes first p vectors blocks k (slice_index sizes k)
  pub rest : (k : ℕ) → m ≤ k → k < length sizes → IsChained encryption sizes first p vectors blocks k 0

-- the first n blocks of record k are out of the chain
abbrev pub IsCbcDecrypted : (List ℕ → List ℕ) → List ℕ → List (List ℕ) → List (List ℕ) → List (List ℕ)
    → List (List ℕ) → ℕ → ℕ → Type 0
IsCbcDecrypted decryption sizes first q vectors blocks k n =
    let before : ℕ → List ℕ = cipher_before (slice_index_or first k []) q (start sizes k) in
    IsAnswered before (λ j. xor_blocks (decryption (slice_index_or q (start sizes k + j) [])) (before j)) q blocks
    (start sizes k) (slice_index sizes k) (slice_index_or vectors k []) n

-- the blocks below a place are out of their chains, and the others are as they were
abbrev pub AreCbcDecryptedBelow : (List ℕ → List ℕ) → List ℕ → List (List ℕ) → List (List ℕ) → List (List ℕ)
    → List (List ℕ) → ℕ → Type 0
AreCbcDecryptedBelow decryption sizes first q vectors blocks place =
    (k : ℕ) → k < length sizes
    → IsCbcDecrypted decryption sizes first q vectors blocks k (min (place - start sizes k) (slice_index sizes k))

-- block i of the records from `from` on, n of them, is written from lanes if the record has one, and the vector too;
-- the rest is as it was
pub record AreWritten (sizes : List ℕ) (from n i : ℕ) (lanes vectors blocks new_vectors new_blocks : List (List ℕ))
    : Type 0 where
  pub block : (k : ℕ) → k < n → i < slice_index sizes (from + k)
      → slice_index_or new_blocks (start sizes (from + k) + i) [] ≡ slice_index_or lanes k []
  pub vector : (k : ℕ) → k < n → i < slice_index sizes (from + k)
      → slice_index_or new_vectors (from + k) [] ≡ slice_index_or lanes k []
  pub ended : (k : ℕ) → k < n → slice_index sizes (from + k) ≤ i
      → slice_index_or new_vectors (from + k) [] ≡ slice_index_or vectors (from + k) []
  pub others : (k j : ℕ) → k < length sizes → j < slice_index sizes k → j ≢ i
      → slice_index_or new_blocks (start sizes k + j) [] ≡ slice_index_or blocks (start sizes k + j) []
  pub before : (k : ℕ) → k < from → slice_index_or new_vectors k [] ≡ slice_index_or vectors k []
  pub past : (k : ℕ) → from + n ≤ k → slice_index_or new_vectors k [] ≡ slice_index_or vectors k []
  pub blocks_before : (k j : ℕ) → k < from → k < length sizes → j < slice_index sizes k
      → slice_index_or new_blocks (start sizes k + j) [] ≡ slice_index_or blocks (start sizes k + j) []
  pub blocks_past : (k j : ℕ) → from + n ≤ k → k < length sizes → j < slice_index sizes k
      → slice_index_or new_blocks (start sizes k + j) [] ≡ slice_index_or blocks (start sizes k + j) []
