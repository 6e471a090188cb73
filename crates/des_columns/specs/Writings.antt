-- What is written of the texts of a column: each value by its definition.
use Rattle.std.specs.Prelude.{◌≡◌, ◌<◌, ℕ, ◌+◌, ◌-◌, ◌*◌, ◌/◌, ◌%◌, ◌==◌, if◌then◌else◌, List, [], ◌∷◌, ◌++◌, length, replicate, get_or}
use Rattle.des_columns.specs.EncryptedBytes.{joined, IsEncrypted}
use Rattle.des_columns.specs.Mysql.{padded}
use Rattle.des_columns.specs.Waiting.{AreWaiting}
use Rattle.des_columns.specs.declared.form.BlockMode.{BlockMode}
use Rattle.des_columns.specs.declared.form.ValueForm.{ValueForm}
use Rattle.des_columns.specs.declared.form.ValueForm.TheVariants.{Mysql, Pkcs7, Unpadded}
use Rattle.des_columns.specs.declared.waiting.Waiting.{Waiting}

-- ---- around the text

-- a text of `size` bytes can be written: without padding it is whole blocks
abbrev pub IsTextSize : ValueForm → ℕ → Type 0
IsTextSize Unpadded size = size % 8 ≡ 0
IsTextSize form size = Unit {0}

-- a text and its padding: by PKCS#7 (RFC 5652, section 6.3) n bytes, 1 to 8, each with the value n; MySQL pads no empty text
abbrev pub padded_by : ValueForm → List ℕ → List ℕ
padded_by Mysql [] = []
padded_by Mysql (byte ∷ text) = padded (byte ∷ text)
padded_by Pkcs7 text = text ++ replicate (8 - length text % 8) (8 - length text % 8)
padded_by Unpadded text = text

-- ---- around the blocks

-- what stands before the blocks of a value: in MySQL 128 and the number of the key
abbrev pub head_of : ValueForm → ℕ → List ℕ → List ℕ
head_of Mysql number (byte ∷ text) = (128 + number) ∷ []
head_of form number text = []

-- how many bytes the value of a text of `size` bytes has
abbrev pub value_size : ValueForm → ℕ → ℕ
value_size Mysql size = if size == 0 then 0 else (size / 8 + 1) * 8 + 1
value_size Pkcs7 size = (size / 8 + 1) * 8
value_size Unpadded size = size

-- the value of a text, if a relation takes a block to its encryption
pub record IsWriting (form : ValueForm) (number : ℕ) (mode : BlockMode) (Relates : List ℕ → List ℕ → Type 0)
    (text value : List ℕ) : Type 0 where
  pub blocks : List ℕ
  pub value_is : value ≡ head_of form number text ++ blocks
  pub encrypted : IsEncrypted mode Relates (padded_by form text) blocks

-- each text of a column is written: its value, of its size, behind those before it
pub record IsColumnWritten (size_of : ℕ → ℕ) (Writes : List ℕ → List ℕ → Type 0) (texts : List (List ℕ)) (values : List ℕ)
    : Type 0 where
  pub written : List (List ℕ)
  pub count : length written ≡ length texts
  pub sizes : (k : ℕ) → k < length texts → length (get_or written k []) ≡ size_of (length (get_or texts k []))
  pub writes : (k : ℕ) → k < length texts → Writes (get_or texts k []) (get_or written k [])
  pub places : values ≡ joined written

-- the blocks of the first of some texts, with their padding, stand in a buffer, each text encrypted by itself under any key that is the
-- cipher's
abbrev pub size_in_blocks : ValueForm → List ℕ → ℕ
size_in_blocks form text = value_size form (length text) / 8

abbrev pub AreEnciphered : ValueForm → BlockMode → (List ℕ → Type 0) → (List ℕ → List ℕ → List ℕ → Type 0) → List (List ℕ)
    → Waiting → List (List ℕ) → Type 0
AreEnciphered form mode IsItsKey relation =
    AreWaiting (size_in_blocks form)
    (λ text blocks. (key : List ℕ) → IsItsKey key → IsEncrypted mode (relation key) (padded_by form text) (joined blocks))
