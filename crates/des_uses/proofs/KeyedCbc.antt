-- What a key makes of a list that a cipher of it has decrypted by CBC.
use Rattle.std.proofs.Common.{◌≡◌, ℕ, List, sym, ◌∙◌}
use Rattle.std.specs.List.{All}
use Rattle.des.specs.Blocks.{IsBlock}
use Rattle.des.specs.Cbc.{CbcUnder, CbcDecrypts}
use Rattle.des.specs.Relations.{TakesBlock}
use Rattle.des.proofs.ChainedBlocks.{CbcUnder-weaker, CbcUnder-from_CbcDecrypts}

-- encryption undoes decryption on each block, and the cipher encrypts as the key does, so the key's CBC encrypts
-- what was decrypted
pub CbcUnder-by_key : (encrypts decrypts by_key : List ℕ → List ℕ) (iv : List ℕ) (p q : List (List ℕ))
    → IsBlock iv → All IsBlock q
    → ((block : List ℕ) → IsBlock block → IsBlock (decrypts block))
    → ((block : List ℕ) → IsBlock block → encrypts (decrypts block) ≡ block)
    → ((block : List ℕ) → IsBlock block → encrypts block ≡ by_key block)
    → CbcDecrypts decrypts iv q p → CbcUnder (TakesBlock by_key) iv p q
CbcUnder-by_key encrypts decrypts by_key iv p q is_iv are_blocks makes_blocks undoes alike cbc_decrypted =
    CbcUnder-weaker (TakesBlock encrypts) (TakesBlock by_key) iv p q
    (λ x y taken. (taken.0, sym (alike x taken.0) ∙ taken.1))
    (CbcUnder-from_CbcDecrypts encrypts decrypts iv p q is_iv are_blocks makes_blocks undoes cbc_decrypted)
