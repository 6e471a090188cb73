-- What `DES_DECRYPT` and `DES_ENCRYPT` make of columns, as MySQL up to 5.7 and MariaDB have them (sql/item_strfunc.cc).
use Rattle.std.specs.Prelude.{◌≡◌, ℕ, ℤ, if◌then◌else◌, List, [], ◌∷◌, Option, Some, None, replicate, get_or}
use Rattle.des.specs.Triple.{EnciphersEde3}
use Rattle.des_columns.specs.Mysql.{has_form, number_of}
use Rattle.des_columns.specs.Readings.{IsReading}
use Rattle.des_columns.specs.Writings.{IsWriting}
use Rattle.des_columns.specs.declared.form.BlockMode.TheVariants.{Cbc}
use Rattle.des_columns.specs.declared.form.ValueForm.TheVariants.{Mysql}
use Rattle.des_columns.specs.declared.status.TheConstants.{OK, ERR_KEY_NUMBER, ERR_NOT_ENCRYPTED}

-- a value under a key, by triple DES chained from zeros
abbrev pub Reads : List ℕ → List ℕ → ℤ → List ℕ → Type 0
Reads key value status text = IsReading Mysql (Cbc (replicate 8 0)) (EnciphersEde3 key) value status text

-- a value for which there is no key
abbrev pub status_without : List ℕ → ℤ
status_without [] = OK
status_without (byte ∷ value) = if has_form (byte ∷ value) then ERR_KEY_NUMBER else ERR_NOT_ENCRYPTED

-- a value under its key, if there is one
abbrev pub ReadsUnder : Option (List ℕ) → List ℕ → ℤ → List ℕ → Type 0
ReadsUnder (Some key) value status text = Reads key value status text
ReadsUnder None value status text = (status ≡ status_without value) × (text ≡ [])

-- a value under that of some keys that has its number
abbrev pub ReadsByNumber : List (Option (List ℕ)) → List ℕ → ℤ → List ℕ → Type 0
ReadsByNumber keys value status text = ReadsUnder (get_or keys (number_of value) None) value status text

-- the value of a text under the key of a number
abbrev pub Writes : List ℕ → ℕ → List ℕ → List ℕ → Type 0
Writes key number text value = IsWriting Mysql number (Cbc (replicate 8 0)) (EnciphersEde3 key) text value
