-- What a triple cipher asks of a single one.
use Rattle.std.specs.Prelude.{ℕ, List}
use Rattle.des.specs.Des.{encryption, decryption}
use Rattle.des.specs.Laws.Passes.{IsPass, Agree}

-- a cipher undoes what it does, and answers blocks as DES does under each key that it is made from
pub record IsDesCipher {D : Type 0} (IsOf : D → List ℕ → Type 0)
    (encrypts decrypts : D → List ℕ → List ℕ) : Type 0 where
  pub is_pass : (cipher : D) → IsPass (encrypts cipher) (decrypts cipher)
  pub encrypts_as_des : (cipher : D) (key : List ℕ) → IsOf cipher key
      → Agree (encrypts cipher) (encryption key)
  pub decrypts_as_des : (cipher : D) (key : List ℕ) → IsOf cipher key
      → Agree (decrypts cipher) (decryption key)

-- the same if more is known of a cipher and its key
pub IsDesCipher-more : {D : Type 0} {IsOf More : D → List ℕ → Type 0}
    {encrypts decrypts : D → List ℕ → List ℕ} → IsDesCipher IsOf encrypts decrypts
    → IsDesCipher (λ cipher key. IsOf cipher key × More cipher key) encrypts decrypts
IsDesCipher-more single = record {
  is_pass = single.is_pass;
  encrypts_as_des = λ cipher key made. single.encrypts_as_des cipher key made.0;
  decrypts_as_des = λ cipher key made. single.decrypts_as_des cipher key made.0;
}
