-- Columns: values, one after another, and what is read of them.
use Rattle.std.specs.Prelude.{◌≡◌, ℕ, ℤ, ◌/◌, Bool, true, false, Option, Some, List, [], ◌∷◌, length, take, drop, map}
use Rattle.std.specs.Option.{option_or}
use Rattle.std.specs.Simd.{first_chunks}
use Rattle.des_columns.specs.EncryptedBytes.{joined}
use Rattle.des_columns.specs.Forms.{blocks_of, fault_before, part_of, size_in, status_after, text_after, xored}
use Rattle.des_columns.specs.Waiting.{AreWaiting}
use Rattle.des_columns.specs.declared.form.BlockMode.{BlockMode}
use Rattle.des_columns.specs.declared.form.ValueForm.{ValueForm}
use Rattle.des_columns.specs.declared.status.TheConstants.{ERR_KEY_NUMBER}
use Rattle.des_columns.specs.declared.waiting.Waiting.{Waiting}

-- the values of a column, by their lengths
abbrev pub pieces : List ℕ → List ℕ → List (List ℕ)
pieces [] bytes = []
pieces (size ∷ lengths) bytes = take size bytes ∷ pieces lengths (drop size bytes)

-- the blocks of a value, each decrypted by what its key is
abbrev pub decrypted : ValueForm → (List ℕ → List ℕ → List ℕ) → List ℕ → List (List ℕ)
decrypted form decryption value = map (decryption value) (blocks_of form value)

-- the blocks of the first of some values, each decrypted, stand in a buffer
abbrev pub AreDecrypted : ValueForm → (List ℕ → List ℕ → List ℕ) → List (List ℕ) → Waiting → List (List ℕ) → Type 0
AreDecrypted form decryption =
    AreWaiting (λ value. length (part_of form value) / 8) (λ value blocks. blocks ≡ decrypted form decryption value)

-- whole blocks, decrypted
abbrev pub deciphered : BlockMode → (List ℕ → List ℕ) → List ℕ → List ℕ
deciphered mode decryption bytes =
    let blocks = first_chunks 8 (length bytes / 8) bytes in
    joined (xored mode blocks (map decryption blocks))

-- what a value is, decrypted
abbrev pub plain_of : ValueForm → BlockMode → (List ℕ → List ℕ → List ℕ) → List ℕ → List ℕ
plain_of form mode decryption value = deciphered mode (decryption value) (part_of form value)

-- why a value has no text, by whether there is a key for it
abbrev pub fault_under : Bool → ValueForm → List ℕ → Option ℤ
fault_under true form value = fault_before form value
fault_under false form value = option_or (fault_before form value) (Some ERR_KEY_NUMBER)

-- status and text of a value, by whether there is a key for it, and what this decrypts each block to
abbrev pub ReadsAs : ValueForm → BlockMode → (List ℕ → Bool) → (List ℕ → List ℕ → List ℕ) → List ℕ → ℤ → List ℕ → Type 0
ReadsAs form mode has_key decryption value status text =
    let plain = plain_of form mode decryption value in
    let fault = fault_under (has_key value) form value in
    (status ≡ status_after fault (size_in form plain)) × (text ≡ text_after fault (size_in form plain) plain)
