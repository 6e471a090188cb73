-- Blocks that a mode encrypts: none, and some in two parts.
use Rattle.std.proofs.Common.{◌≡◌, ℕ, List, [], ◌∷◌, ◌++◌, refl, arith}
use Rattle.des.specs.Blocks.{AnswersEach}
use Rattle.des.proofs.ChainedPieces.{CbcUnder-append}
use Rattle.des_columns.specs.EncryptedBytes.{AreEncrypted}
use Rattle.des_columns.specs.Forms.{mode_after}
use Rattle.des_columns.specs.declared.form.BlockMode.{BlockMode}
use Rattle.des_columns.specs.declared.form.BlockMode.TheVariants.{Ecb, Cbc}

pub mode_after-none : (mode : BlockMode) → mode ≡ mode_after mode []
mode_after-none Ecb = refl
mode_after-none (Cbc iv) = refl

module _ (Relates : List ℕ → List ℕ → Type 0) where
  pub AreEncrypted-none : (mode : BlockMode) → AreEncrypted mode Relates [] []
  AreEncrypted-none Ecb = tt
  AreEncrypted-none (Cbc iv) = record {
    count = refl;
    widths = λ n from to. absurd (omega (arith, from, to));
    chained = λ n from to. absurd (omega (arith, from, to));
  }

  AnswersEach-append : (p q more answers : List (List ℕ)) → AnswersEach Relates p q → AnswersEach Relates more answers
      → AnswersEach Relates (p ++ more) (q ++ answers)
  AnswersEach-append [] [] more answers first rest = rest
  AnswersEach-append [] (y ∷ q) more answers first rest = absurd first
  AnswersEach-append (x ∷ p) [] more answers first rest = absurd first
  AnswersEach-append (x ∷ p) (y ∷ q) more answers first rest = (first.0, AnswersEach-append p q more answers first.1 rest)

  -- the mode goes on from what the first blocks became
  pub AreEncrypted-append : (mode : BlockMode) (p q more answers : List (List ℕ)) → AreEncrypted mode Relates p q
      → AreEncrypted (mode_after mode q) Relates more answers → AreEncrypted mode Relates (p ++ more) (q ++ answers)
  AreEncrypted-append Ecb p q more answers first rest = AnswersEach-append p q more answers first rest
  AreEncrypted-append (Cbc iv) p q more answers first rest = CbcUnder-append Relates iv p q more answers first rest
