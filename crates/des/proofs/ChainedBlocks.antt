-- Lists of blocks that are chained, and functions on blocks that undo each other.
use Rattle.std.proofs.Common.{◌≡◌, ℕ, zero, suc, ◌+◌, ◌-◌, ◌≤◌, List, [], length, refl, sym, ◌∙◌, subst, arith}
use Rattle.std.specs.List.{All}
use Rattle.std.proofs.lemmas.List.Elements.{All-cons}
use Rattle.des.specs.Blocks.{IsBlock}
use Rattle.des.specs.Cbc.{xor_blocks, block_at, block_before, CbcUnder, Cbc, CbcDecrypts}
use Rattle.des.specs.Relations.{TakesBlock}
use Rattle.des.proofs.XoredBlocks.{length-xor_blocks, xor_blocks-undone, IsBlock-xor_blocks}

-- each block of a list of blocks is one
IsBlock-block_at : (blocks : List (List ℕ)) (n : ℕ) → 1 ≤ n → n ≤ length blocks → All IsBlock blocks
    → IsBlock (block_at blocks n)
IsBlock-block_at blocks n from to are_blocks = are_blocks (n - 1) [] (omega arith)

-- so is the block before each
IsBlock-block_before : (iv : List ℕ) (blocks : List (List ℕ)) (n : ℕ) → n ≤ length blocks → IsBlock iv
    → All IsBlock blocks → IsBlock (block_before iv blocks n)
IsBlock-block_before iv blocks n to is_iv are_blocks =
    All-cons IsBlock iv blocks is_iv are_blocks (n - 1) [] (omega arith)

-- a block is the one before the next
pub block_before-next : (iv : List ℕ) (blocks : List (List ℕ)) (n : ℕ) → 1 ≤ n
    → block_before iv blocks (n + 1) ≡ block_at blocks n
block_before-next iv blocks zero from = absurd (omega arith)
block_before-next iv blocks (suc m) from =
    let next : suc m + 1 - 1 ≡ suc m = omega arith in
    let this : suc m - 1 ≡ m = omega arith in
    rw (next, this) refl

-- what is chained under a relation is chained under a weaker one
pub CbcUnder-weaker : (P Q : List ℕ → List ℕ → Type 0) (iv : List ℕ) (p q : List (List ℕ))
    → ((x y : List ℕ) → P x y → Q x y) → CbcUnder P iv p q → CbcUnder Q iv p q
CbcUnder-weaker P Q iv p q weaker chains = record {
  count = chains.count;
  widths = chains.widths;
  chained = λ n from to. weaker _ _ (chains.chained n from to);
}

-- if encryption makes blocks of blocks, the block before each place of a chained list is a block
IsBlock-before_chained : (encryption : List ℕ → List ℕ) (iv : List ℕ) (p q : List (List ℕ)) → IsBlock iv → All IsBlock p
    → ((block : List ℕ) → IsBlock block → IsBlock (encryption block)) → Cbc encryption iv p q
    → (n : ℕ) → n ≤ length p → IsBlock (block_before iv q n)
IsBlock-before_chained encryption iv p q is_iv are_blocks makes_blocks cbc zero to = is_iv
IsBlock-before_chained encryption iv p q is_iv are_blocks makes_blocks cbc (suc zero) to = is_iv
IsBlock-before_chained encryption iv p q is_iv are_blocks makes_blocks cbc (suc (suc m)) to =
    let next : suc m + 1 ≡ suc (suc m) = omega arith in
    let P : ℕ → Type 0 = λ n. IsBlock (block_before iv q n) in
    subst P next (rw (block_before-next iv q (suc m) (omega arith), cbc.chained (suc m) (omega arith) (omega arith))
    (makes_blocks _ (IsBlock-xor_blocks _ _ (IsBlock-block_at p (suc m) (omega arith) (omega arith) are_blocks)
    (IsBlock-before_chained encryption iv p q is_iv are_blocks makes_blocks cbc (suc m) (omega arith)))))

-- what is encrypted in the chain of a list of blocks are blocks
pub CbcUnder-from_Cbc : (encryption : List ℕ → List ℕ) (iv : List ℕ) (p q : List (List ℕ)) → IsBlock iv → All IsBlock p
    → ((block : List ℕ) → IsBlock block → IsBlock (encryption block)) → Cbc encryption iv p q
    → CbcUnder (TakesBlock encryption) iv p q
CbcUnder-from_Cbc encryption iv p q is_iv are_blocks makes_blocks cbc = record {
  count = cbc.count;
  widths = cbc.widths;
  chained = λ n from to.
      let is_before = IsBlock-before_chained encryption iv p q is_iv are_blocks makes_blocks cbc n to in
      (IsBlock-xor_blocks _ _ (IsBlock-block_at p n from to are_blocks) is_before, sym (cbc.chained n from to));
}

-- a chained list is decrypted by what undoes the encryption
pub CbcDecrypts-from_Cbc : (encryption decryption : List ℕ → List ℕ) (iv : List ℕ) (p q : List (List ℕ)) → IsBlock iv
    → All IsBlock p → ((block : List ℕ) → IsBlock block → IsBlock (encryption block))
    → ((block : List ℕ) → IsBlock block → decryption (encryption block) ≡ block) → Cbc encryption iv p q
    → CbcDecrypts decryption iv q p
CbcDecrypts-from_Cbc encryption decryption iv p q is_iv are_blocks makes_blocks undoes cbc = record {
  count = sym cbc.count;
  cbc_decrypted = λ n from to.
      let within : n ≤ length p = omega (arith, cbc.count) in
      let is_block = IsBlock-block_at p n from within are_blocks in
      let is_before = IsBlock-before_chained encryption iv p q is_iv are_blocks makes_blocks cbc n within in
      let xored = xor_blocks (block_at p n) (block_before iv q n) in
      rw (cbc.chained n from within, undoes xored (IsBlock-xor_blocks _ _ is_block is_before))
      (sym (xor_blocks-undone (block_at p n) (block_before iv q n) (omega arith)));
}

-- a list that decryption cbc_decrypts, by what undoes it
module _ (encryption decryption : List ℕ → List ℕ) (iv : List ℕ) (p q : List (List ℕ)) (is_iv : IsBlock iv)
    (are_blocks : All IsBlock q) (makes_blocks : (block : List ℕ) → IsBlock block → IsBlock (decryption block))
    (undoes : (block : List ℕ) → IsBlock block → encryption (decryption block) ≡ block)
    (cbc_decrypts : CbcDecrypts decryption iv q p) where
  -- is chained, and blocks are encrypted in the chain
  pub CbcUnder-from_CbcDecrypts : CbcUnder (TakesBlock encryption) iv p q
  CbcUnder-from_CbcDecrypts = record {
    count = sym cbc_decrypts.count;
    widths = λ n from to.
        let within : n ≤ length q = omega (arith, cbc_decrypts.count) in
        let is_block = makes_blocks (block_at q n) (IsBlock-block_at q n from within are_blocks) in
        let is_before = IsBlock-block_before iv q n within is_iv are_blocks in
        rw (cbc_decrypts.cbc_decrypted n from within) (length-xor_blocks _ _ (omega arith) ∙ is_block.0);
    chained = λ n from to.
        let within : n ≤ length q = omega (arith, cbc_decrypts.count) in
        let of_block = IsBlock-block_at q n from within are_blocks in
        let is_block = makes_blocks (block_at q n) of_block in
        let is_before = IsBlock-block_before iv q n within is_iv are_blocks in
        rw (
          cbc_decrypts.cbc_decrypted n from within,
          xor_blocks-undone (decryption (block_at q n)) (block_before iv q n) (omega arith),
        )
        (is_block, undoes (block_at q n) of_block);
  }

  -- and so is one of CBC
  pub Cbc-from_CbcDecrypts : Cbc encryption iv p q
  Cbc-from_CbcDecrypts =
      CbcUnder-weaker (TakesBlock encryption) (λ block answer. answer ≡ encryption block) iv p q (λ x y taken. sym taken.1)
      CbcUnder-from_CbcDecrypts
