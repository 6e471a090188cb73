-- Texts that are decoded as they are read: each byte may give a byte, and moves the position in the text.
use Rattle.std.specs.Prelude.{◌≡◌, ◌≢◌, ℕ, Bool, true, List, [], ◌∷◌, take, Option, Some, None, Result, Ok, Err}
use Rattle.std.specs.Io.KnownBytes.{Consumes}
use Rattle.std.specs.IoError.{error_kind}
use Rattle.std.specs.declared.io.Error.{Error}
use Rattle.std.specs.declared.io.ErrorKind.TheVariants.{InvalidData}

abbrev pub in_front : Option ℕ → List ℕ → List ℕ
in_front None bytes = bytes
in_front (Some byte) bytes = byte ∷ bytes

-- the position after a text
unfoldable pub after_all : {P : Type 0} → (after : P → ℕ → P) → P → List ℕ → P
after_all after position [] = position
after_all after position (byte ∷ rest) = after_all after (after position byte) rest

-- what a text gives from a position on
unfoldable pub given_by : {P : Type 0} → (after : P → ℕ → P) → (given : P → ℕ → Option ℕ) → P → List ℕ → List ℕ
given_by after given position [] = []
given_by after given position (byte ∷ rest) =
    in_front (given position byte) (given_by after given (after position byte) rest)

-- what was read of a text gave these bytes, and moved the position
abbrev pub Decodes : {P : Type 0} → (after : P → ℕ → P) → (given : P → ℕ → Option ℕ) → (read_from read_to : Option (List ℕ))
    → (position next : P) → List ℕ → Type 0
Decodes after given read_from read_to position next bytes =
    (text : List ℕ) × Consumes read_from read_to text × (bytes ≡ given_by after given position text)
    × (next ≡ after_all after position text)

-- what a read gave
abbrev pub given_to : {E : Type 0} → Result ℕ E → (buf : List ℕ) → List ℕ
given_to (Ok count) buf = take count buf
given_to (Err error) buf = []

-- a read that fails by what its text can't be is marked, and no other
abbrev pub MarksFault : (old : Bool) → Result ℕ Error → (new : Bool) → Type 0
MarksFault old (Ok count) new = new ≡ old
MarksFault old (Err error) new =
    (error_kind error ≡ InvalidData → new ≡ true) × (error_kind error ≢ InvalidData → new ≡ old)
