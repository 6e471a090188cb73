-- Records of blocks, one after another in a list, in CBC.
use Rattle.std.specs.Prelude.{◌≡◌, ◌≢◌, ◌↔◌, ℕ, ℤ, ◌<◌, List, [], length, sum, slice_index_or}
use Rattle.des.specs.Cbc.{CbcUnder}
use Rattle.des_fast.specs.Records.{record_of, GoOn}
use Rattle.des_context.specs.CipherTypes.{relation_of}
use Rattle.des_context.specs.Contexts.{IsContextOf}
use Rattle.des_context.specs.declared.status.TheConstants.{OK, ERR_COUNTS}

-- there are as many vectors as sizes, and the sizes sum up to the blocks
abbrev pub AreSizesOf : List ℕ → List (List ℕ) → List (List ℕ) → Type 0
AreSizesOf sizes vectors blocks = (length vectors ≡ length sizes) × (sum sizes ≡ length blocks)

-- each record of p is encrypted by CBC to that of q from the vector at its place, under a relation of blocks
unfoldable pub CbcUnderEach : (List ℕ → List ℕ → Type 0) → List ℕ → List (List ℕ) → List (List ℕ) → List (List ℕ) → Type 0
CbcUnderEach Relates sizes vectors p q =
    (k : ℕ) → k < length vectors
    → CbcUnder Relates (slice_index_or vectors k []) (record_of sizes p k) (record_of sizes q k)

-- the sizes are refused, and all stays; or the plain records become the encrypted ones by CBC and the key of a
-- context, and each vector becomes the last block of its record
pub record ChainedByKey (context sizes : List ℕ) (vectors_old vectors_new old new plain encrypted : List (List ℕ)) (status : ℤ)
    : Type 0 where
  pub accepted : (status ≡ OK) ↔ AreSizesOf sizes vectors_old old
  pub refused : (status ≡ ERR_COUNTS) ↔ ¬ (AreSizesOf sizes vectors_old old)
  pub chained : status ≡ OK → (key : List ℕ) → IsContextOf context key
      → CbcUnderEach (relation_of key) sizes vectors_old plain encrypted
  pub goes_on : status ≡ OK → GoOn sizes vectors_old encrypted vectors_new
  pub kept : status ≢ OK → (vectors_new ≡ vectors_old) × (new ≡ old)
