-- CBC by a relation of blocks, of a cipher whose graph it is.
use Rattle.std.proofs.Common.{◌≡◌, ℕ, List}
use Rattle.std.specs.List.{All}
use Rattle.des.specs.Blocks.{IsBlock}
use Rattle.des.specs.Cbc.{CbcUnder, Cbc, CbcDecrypts}
use Rattle.des.specs.Relations.{TakesBlock, IsGraphOf}
use Rattle.des.specs.Des.{encryption}
use Rattle.des.specs.Enciphering.{Enciphers}
use Rattle.des.specs.Laws.Passes.{IsGraphOf-alike}
use Rattle.des.proofs.ChainedBlocks.{CbcUnder-weaker, CbcUnder-from_Cbc, CbcUnder-from_CbcDecrypts}
use Rattle.des_fast.specs.declared.single.Des.{Des}
use Rattle.des_fast.specs.Des.{IsDesOf, encrypted}
use Rattle.des_fast.specs.Laws.DesLaws.{IsPass-Des, Agree-encrypted}

-- the blocks of a chain are related
pub CbcUnder-related : (Relates : List ℕ → List ℕ → Type 0) (encryption : List ℕ → List ℕ)
    → IsGraphOf encryption Relates → (iv : List ℕ) (p q : List (List ℕ)) → IsBlock iv → All IsBlock p
    → ((block : List ℕ) → IsBlock block → IsBlock (encryption block)) → Cbc encryption iv p q → CbcUnder Relates iv p q
CbcUnder-related Relates encryption graph iv p q is_iv are_blocks makes_blocks cbc =
    CbcUnder-weaker (TakesBlock encryption) Relates iv p q (λ x y. (graph x y).1)
    (CbcUnder-from_Cbc encryption iv p q is_iv are_blocks makes_blocks cbc)

-- those of a list that comes out of a chain too
pub CbcUnder-related_back : (Relates : List ℕ → List ℕ → Type 0) (encryption decryption : List ℕ → List ℕ)
    → IsGraphOf encryption Relates → (iv : List ℕ) (p q : List (List ℕ)) → IsBlock iv → All IsBlock q
    → ((block : List ℕ) → IsBlock block → IsBlock (decryption block))
    → ((block : List ℕ) → IsBlock block → encryption (decryption block) ≡ block) → CbcDecrypts decryption iv q p
    → CbcUnder Relates iv p q
CbcUnder-related_back Relates encryption decryption graph iv p q is_iv are_blocks makes_blocks undoes cbc_decrypts =
    CbcUnder-weaker (TakesBlock encryption) Relates iv p q (λ x y. (graph x y).1)
    (CbcUnder-from_CbcDecrypts encryption decryption iv p q is_iv are_blocks makes_blocks undoes cbc_decrypts)

-- those of DES, by the relation of its key
pub CbcUnder-des : {W : Type 0} (cipher : Des W) (key : List ℕ) → IsDesOf cipher key
    → IsGraphOf (encryption key) (λ x y. Enciphers key x y) → (iv : List ℕ) (p q : List (List ℕ)) → IsBlock iv
    → All IsBlock p → Cbc (encrypted cipher) iv p q → CbcUnder (λ x y. Enciphers key x y) iv p q
CbcUnder-des cipher key made graph iv p q is_iv are_blocks =
    CbcUnder-related (λ x y. Enciphers key x y) (encrypted cipher)
    (IsGraphOf-alike (λ x y. Enciphers key x y) (Agree-encrypted cipher key made) graph) iv p q is_iv are_blocks
    (IsPass-Des cipher).forth_is_block
