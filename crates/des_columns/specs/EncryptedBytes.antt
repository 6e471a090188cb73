-- Bytes that are whole blocks, as a mode encrypts them (FIPS 81, electronic codebook and cipher block chaining mode).
use Rattle.std.specs.Prelude.{◌≡◌, ℕ, List}
use Rattle.std.specs.List.{flat_map}
use Rattle.des.specs.Blocks.{AnswersEach}
use Rattle.des.specs.Cbc.{CbcUnder}
use Rattle.des_columns.specs.declared.form.BlockMode.{BlockMode}
use Rattle.des_columns.specs.declared.form.BlockMode.TheVariants.{Ecb, Cbc}

-- the bytes of blocks, one block after another
abbrev pub joined : List (List ℕ) → List ℕ
joined blocks = flat_map (λ block. block) blocks

-- a mode takes the blocks p to q, if a relation takes a block to its encryption
abbrev pub AreEncrypted : BlockMode → (List ℕ → List ℕ → Type 0) → List (List ℕ) → List (List ℕ) → Type 0
AreEncrypted Ecb Relates p q = AnswersEach Relates p q
AreEncrypted (Cbc iv) Relates p q = CbcUnder Relates iv p q

-- it takes the bytes p to q
pub record IsEncrypted (mode : BlockMode) (Relates : List ℕ → List ℕ → Type 0) (p q : List ℕ) : Type 0 where
  pub p_blocks : List (List ℕ)
  pub q_blocks : List (List ℕ)
  pub of_p : joined p_blocks ≡ p
  pub of_q : joined q_blocks ≡ q
  pub encrypted : AreEncrypted mode Relates p_blocks q_blocks
