-- What a column is read as: each value by its definition.
use Rattle.std.specs.Prelude.{◌≡◌, ◌<◌, ℕ, ℤ, List, [], length, map, get_or}
use Rattle.std.specs.Simd.Lanes.{zip2}
use Rattle.des_columns.specs.EncryptedBytes.{joined, IsEncrypted}
use Rattle.des_columns.specs.Forms.{part_of, status_of, text_of, filled_to}
use Rattle.des_columns.specs.declared.form.BlockMode.{BlockMode}
use Rattle.des_columns.specs.declared.form.ValueForm.{ValueForm}
use Rattle.des_columns.specs.declared.status.TheConstants.{OK}

-- status and text of a value: those of the bytes that were encrypted to its blocks
pub record IsReading (form : ValueForm) (mode : BlockMode) (Relates : List ℕ → List ℕ → Type 0) (value : List ℕ)
    (status : ℤ) (text : List ℕ) : Type 0 where
  pub plain : List ℕ
  pub encrypted : IsEncrypted mode Relates plain (part_of form value)
  pub status_is : status ≡ status_of form value plain
  pub text_is : text ≡ text_of form value plain

-- each value of a column is read: its status, and its text in the value's place, before zeros
pub record IsColumnRead (Reads : List ℕ → ℤ → List ℕ → Type 0) (values : List (List ℕ)) (texts text_lengths : List ℕ)
    (statuses : List ℤ) : Type 0 where
  pub read : List (List ℕ)
  pub count : length read ≡ length values
  pub statuses_count : length statuses ≡ length values
  pub reads : (k : ℕ) → k < length values → Reads (get_or values k []) (get_or statuses k OK) (get_or read k [])
  pub lengths : text_lengths ≡ map length read
  pub places : texts ≡ joined (zip2 (λ value text. filled_to (length value) text) values read)
