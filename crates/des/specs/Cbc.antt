-- Cipher block chaining, CBC (FIPS 81, cipher block chaining mode), as relations of two whole lists
-- of blocks: p the plaintext and q the ciphertext, numbered from 1, and q(0) the initialization
-- vector. `^` is xor.
use Rattle.std.specs.Prelude.{◌≡◌, ℕ, ◌-◌, ◌≤◌, List, [], ◌∷◌, length, slice_index_or, bit_xor}
use Rattle.std.specs.Simd.Lanes.{zip2}

-- the xor of two blocks, byte by byte
unfoldable pub xor_blocks : List ℕ → List ℕ → List ℕ
xor_blocks block other = zip2 bit_xor block other

-- block n of a list
abbrev pub block_at : List (List ℕ) → ℕ → List ℕ
block_at blocks n = slice_index_or blocks (n - 1) []

-- the block before block n of a list, which for the first is the initialization vector
abbrev pub block_before : List ℕ → List (List ℕ) → ℕ → List ℕ
block_before iv blocks n = block_at (iv ∷ blocks) n

-- two lists of as many blocks, chained under a relation of blocks, which has no direction: it takes
-- p(n) ^ q(n-1) to q(n), for each n. That the blocks of p have 8 bytes is said beside it, since
-- `zip2` stops at the end of the shorter list
pub record CbcUnder (Relates : List ℕ → List ℕ → Type 0) (iv : List ℕ) (p q : List (List ℕ))
    : Type 0 where
  pub count : length q ≡ length p
  pub widths : (n : ℕ) → 1 ≤ n → n ≤ length p → length (block_at p n) ≡ 8
  pub chained : (n : ℕ) → 1 ≤ n → n ≤ length p
      → Relates (xor_blocks (block_at p n) (block_before iv q n)) (block_at q n)

-- CBC: q(n) = E(p(n) ^ q(n-1)) for each n, by the encryption E
abbrev pub Cbc : (List ℕ → List ℕ) → List ℕ → List (List ℕ) → List (List ℕ) → Type 0
Cbc encryption iv p q = CbcUnder (λ block answer. answer ≡ encryption block) iv p q

-- CBC read from q to p: p(n) = D(q(n)) ^ q(n-1) for each n, by the decryption D
pub record CbcDecrypts (decryption : List ℕ → List ℕ) (iv : List ℕ) (q p : List (List ℕ))
    : Type 0 where
  pub count : length p ≡ length q
  pub cbc_decrypted : (n : ℕ) → 1 ≤ n → n ≤ length q
      → block_at p n ≡ xor_blocks (decryption (block_at q n)) (block_before iv q n)

-- the vector with which a chain goes on after ciphertext blocks: the last of them, or if there
-- is none the vector that it began with
abbrev pub next_vector : List ℕ → List (List ℕ) → List ℕ
next_vector vector [] = vector
next_vector vector (block ∷ ciphertext) = next_vector block ciphertext
