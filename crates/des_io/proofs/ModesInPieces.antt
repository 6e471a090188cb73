-- Lists of blocks that are enciphered or deciphered piece after piece.
use Rattle.std.proofs.Common.{◌≡◌, ℕ, List, [], ◌++◌, length, refl, ap, ap₂, sym, ◌∙◌, arith}
use Rattle.std.proofs.lemmas.List.{map-append, length-map, nil_from_length}
use Rattle.des_io.specs.CipherModes.{Enciphered, Deciphered, mode_after}
use Rattle.des_io.specs.declared.mode.BlockMode.{BlockMode}
use Rattle.des_io.specs.declared.mode.BlockMode.TheVariants.{Ecb, Cbc as CbcMode}
use Rattle.des.proofs.ChainedPieces.{next_vector-append, CbcUnder-append, CbcDecrypts-append}

-- ---- modes

pub mode_after-append : (mode : BlockMode) (blocks more : List (List ℕ)) → mode_after mode (blocks ++ more) ≡ mode_after
    (mode_after mode blocks) more
mode_after-append Ecb blocks more = refl
mode_after-append (CbcMode iv) blocks more = ap CbcMode (next_vector-append iv blocks more)

pub Enciphered-append : (encryption : List ℕ → List ℕ) (mode : BlockMode) (p q more outputs : List (List ℕ))
    → Enciphered encryption mode p q
    → Enciphered encryption (mode_after mode q) more outputs → Enciphered encryption mode (p ++ more) (q ++ outputs)
Enciphered-append encryption Ecb p q more outputs first second = ap₂ ◌++◌ first second
    ∙ sym (map-append encryption p more)
Enciphered-append encryption (CbcMode iv) p q more outputs first second =
    CbcUnder-append (λ block answer. answer ≡ encryption block) iv p q more outputs first second

pub Deciphered-append : (decryption : List ℕ → List ℕ) (mode : BlockMode) (q p more outputs : List (List ℕ))
    → Deciphered decryption mode q p
    → Deciphered decryption (mode_after mode q) more outputs → Deciphered decryption mode (q ++ more) (p ++ outputs)
Deciphered-append decryption Ecb q p more outputs first second = ap₂ ◌++◌ first second
    ∙ sym (map-append decryption q more)
Deciphered-append decryption (CbcMode iv) q p more outputs first second =
    CbcDecrypts-append decryption iv q p more outputs first second

-- ---- nothing

pub mode_after-none : (mode : BlockMode) → mode_after mode [] ≡ mode
mode_after-none Ecb = refl
mode_after-none (CbcMode iv) = refl

pub Enciphered-none : (encryption : List ℕ → List ℕ) (mode : BlockMode) → Enciphered encryption mode [] []
Enciphered-none encryption Ecb = refl
Enciphered-none encryption (CbcMode iv) = record {
  count = refl;
  widths = λ n from to. absurd (omega arith);
  chained =
      λ n from to. absurd (omega arith);
}

pub Deciphered-none : (decryption : List ℕ → List ℕ) (mode : BlockMode) → Deciphered decryption mode [] []
Deciphered-none decryption Ecb = refl
Deciphered-none decryption (CbcMode iv) = record { count = refl; cbc_decrypted = λ n from to. absurd (omega arith) }

-- as many blocks are deciphered as there are
pub Deciphered-count : (decryption : List ℕ → List ℕ) (mode : BlockMode) (q p : List (List ℕ))
    → Deciphered decryption mode q p → length p ≡ length q
Deciphered-count decryption Ecb q p deciphered = ap length deciphered ∙ length-map q decryption
Deciphered-count decryption (CbcMode iv) q p deciphered = deciphered.count

-- of no blocks no blocks are deciphered
pub Deciphered-nil : (decryption : List ℕ → List ℕ) (mode : BlockMode) (q p : List (List ℕ)) → Deciphered decryption mode q p
    → q ≡ [] → p ≡ []
Deciphered-nil decryption mode q p deciphered none =
    nil_from_length p (Deciphered-count decryption mode q p deciphered ∙ ap length none)
