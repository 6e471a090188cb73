-- The statuses of the calls over columns.
use Rattle.std.specs.Prelude.{◌≡◌, ◌≢◌, ◌⊎◌, ◌↔◌, ◌≤◌, ◌+◌, ℕ, ℤ, List, Option, Some, None, length, sum}
use Rattle.std.specs.List.{All, sum_by}
use Rattle.des_columns.specs.Jasypt.{value_size as string_size}
use Rattle.des_columns.specs.Pbe.{IsSaltOf, key_size}
use Rattle.des_columns.specs.Writings.{IsTextSize, value_size}
use Rattle.des_columns.specs.declared.form.ValueForm.{ValueForm}
use Rattle.des_columns.specs.declared.pbe.Algorithm.{Algorithm}
use Rattle.des_context.specs.declared.status.TheConstants.{OK, ERR_ALGORITHM, ERR_BLOCKS, ERR_COUNTS, ERR_ITERATIONS, ERR_KEY_LENGTH, ERR_SALT_LENGTH, ERR_VALUES}

-- the lengths add up to those of the values, the buffer for texts is as long, and each value has a length and a status
abbrev pub Fit : List ℕ → List ℕ → List ℕ → List ℕ → List ℤ → Type 0
Fit lengths values texts text_lengths statuses =
    (sum lengths ≡ length values) × (length texts ≡ length values) × (length text_lengths ≡ length lengths)
    × (length statuses ≡ length lengths)

-- the status of a call that reads values, by what is given and by the statuses of the values
pub record IsReadStatus (lengths values texts text_lengths : List ℕ) (old new : List ℤ) (status : ℤ) : Type 0 where
  pub counts : (status ≡ ERR_COUNTS) ↔ ¬ (Fit lengths values texts text_lengths old)
  pub all : (status ≡ OK) ↔ (Fit lengths values texts text_lengths old × All (λ it. it ≡ OK) new)
  pub some : (status ≡ ERR_VALUES) ↔ (Fit lengths values texts text_lengths old × ¬ (All (λ it. it ≡ OK) new))

-- the number of a key of the server's file, or that of a key string
abbrev pub IsKeyNumber : ℕ → Type 0
IsKeyNumber number = (number ≤ 9) ⊎ (number ≡ 127)

-- the lengths add up to those of the texts, and the buffer is as long as their values
abbrev pub TakesValues : ValueForm → List ℕ → List ℕ → List ℕ → Type 0
TakesValues form lengths texts values = (sum lengths ≡ length texts) × (sum_by (value_size form) lengths ≡ length values)

-- the status of a call that writes values, by what is given
pub record IsWriteStatus (form : ValueForm) (lengths texts values : List ℕ) (status : ℤ) : Type 0 where
  pub counts : (status ≡ ERR_COUNTS) ↔ ¬ (TakesValues form lengths texts values)
  pub cut : (status ≡ ERR_BLOCKS) ↔ (TakesValues form lengths texts values × ¬ (All (IsTextSize form) lengths))
  pub written : (status ≡ OK) ↔ (TakesValues form lengths texts values × All (IsTextSize form) lengths)

-- of strings of Jasypt: each text has a salt too
abbrev pub TakesStrings : List ℕ → List ℕ → List (List ℕ) → List ℕ → Type 0
TakesStrings lengths texts salts values =
    (sum lengths ≡ length texts) × (length salts ≡ length lengths)
    × (sum_by (λ size. string_size (8 + size)) lengths ≡ length values)

-- the status of a key by an algorithm, by the iterations, and the lengths of the salt, and of key and vector together
abbrev pub IsPbeStatus : Option Algorithm → ℕ → ℕ → ℕ → ℤ → Type 0
IsPbeStatus None iterations salt size status = status ≡ ERR_ALGORITHM
IsPbeStatus (Some by) iterations salt size status =
    ((status ≡ ERR_KEY_LENGTH) × (size ≢ key_size by + 8))
    ⊎ ((status ≡ ERR_ITERATIONS) × (size ≡ key_size by + 8) × ((iterations ≡ 0) ⊎ (0x100000000 ≤ iterations)))
    ⊎ ((status ≡ ERR_SALT_LENGTH) × (size ≡ key_size by + 8) × ¬ (IsSaltOf by salt))
    ⊎ ((status ≡ OK) × (size ≡ key_size by + 8) × IsSaltOf by salt)
