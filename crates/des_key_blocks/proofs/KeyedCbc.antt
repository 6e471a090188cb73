-- What a key makes by CBC of a list of blocks that a cipher of it has encrypted.
use Rattle.std.proofs.Common.{◌≡◌, ℕ, ◌-◌, List, sym, ◌∙◌}
use Rattle.des.specs.Blocks.{IsBlock}
use Rattle.des.specs.Cbc.{CbcUnder, Cbc}
use Rattle.des.specs.Relations.{TakesBlock}
use Rattle.des.proofs.ChainedBlocks.{CbcUnder-weaker}

-- the cipher encrypts blocks as the key does
pub Cbc-by_key : (encrypts by_key : List ℕ → List ℕ) (iv : List ℕ) (p q : List (List ℕ))
    → ((block : List ℕ) → IsBlock block → encrypts block ≡ by_key block) → CbcUnder (TakesBlock encrypts) iv p q
    → Cbc by_key iv p q
Cbc-by_key encrypts by_key iv p q alike chained =
    CbcUnder-weaker (TakesBlock encrypts) (λ block encrypted. encrypted ≡ by_key block) iv p q
    (λ x y taken. sym taken.1 ∙ alike x taken.0) chained
