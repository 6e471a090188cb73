-- What any cipher makes of blocks, for the contracts of the code that does not know which it runs.
use Rattle.std.specs.Prelude.{◌≡◌, ℕ, List}
use Rattle.des.specs.Blocks.{IsKey, IsBlock}
use Rattle.des_tool.specs.declared.command.request.Direction.{Direction}
use Rattle.des_tool.specs.declared.command.request.Direction.TheVariants.{Encrypt, Decrypt}

-- of two things, the one of a direction
abbrev pub in_direction {ℓ} : {A : Type ℓ} → Direction → A → A → A
in_direction Encrypt encrypts decrypts = encrypts
in_direction Decrypt encrypts decrypts = decrypts

-- the answer is what the function makes of the block, under a key of this size
pub record IsMadeBy (f : List ℕ → List ℕ → List ℕ) (size : ℕ)
    (key block answer : List ℕ) : Type 0 where
  pub is_key : IsKey size key
  pub is_block : IsBlock block
  pub made : f key block ≡ answer
