-- Records, one after another in a list of blocks: record k, from 0, has `sizes` at k of them.
use Rattle.std.specs.Prelude.{◌≡◌, ℕ, ◌<◌, List, [], length, take, drop, sum, slice_index, slice_index_or}
use Rattle.des.specs.Cbc.{Cbc, CbcDecrypts, next_vector}

-- the index of the first block of record k: the blocks of the records before it
abbrev pub start : List ℕ → ℕ → ℕ
start sizes k = sum (take k sizes)

-- the blocks of record k
abbrev pub record_of : List ℕ → List (List ℕ) → ℕ → List (List ℕ)
record_of sizes blocks k = take (slice_index sizes k) (drop (start sizes k) blocks)

-- each record is chained by CBC from the vector at its place
abbrev pub CbcEach : (List ℕ → List ℕ) → List ℕ → List (List ℕ) → List (List ℕ) → List (List ℕ) → Type 0
CbcEach encryption sizes vectors p q =
    (k : ℕ) → k < length vectors
    → Cbc encryption (slice_index_or vectors k []) (record_of sizes p k) (record_of sizes q k)

-- the same read from q to p
abbrev pub CbcDecryptsEach : (List ℕ → List ℕ) → List ℕ → List (List ℕ) → List (List ℕ) → List (List ℕ) → Type 0
CbcDecryptsEach decryption sizes vectors q p =
    (k : ℕ) → k < length vectors
    → CbcDecrypts decryption (slice_index_or vectors k []) (record_of sizes q k) (record_of sizes p k)

-- the vectors with which the chains go on after their ciphertext
abbrev pub GoOn : List ℕ → List (List ℕ) → List (List ℕ) → List (List ℕ) → Type 0
GoOn sizes vectors ciphertext next =
    (k : ℕ) → k < length vectors
    → slice_index_or next k [] ≡ next_vector (slice_index_or vectors k []) (record_of sizes ciphertext k)
