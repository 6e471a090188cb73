-- What `openssl enc` encrypted under a password by CBC: what there is to be opened, and the first fault.
use Rattle.std.specs.Prelude.{◌≡◌, ◌≢◌, ◌⊎◌, ◌<◌, ◌≤◌, ℕ, ℤ, ◌+◌, List, ◌++◌, length, take, drop, codes, Option, Some, None}
use Rattle.des.specs.Cbc.{CbcUnder}
use Rattle.des.specs.Relations.{IsTheOne}
use Rattle.des_context.specs.Bytes.{AreWhole, blocks_of}
use Rattle.des_context.specs.CipherTypes.{relation_of}
use Rattle.des_context.specs.declared.status.TheConstants.{OK, ERR_HASH, ERR_ITERATIONS, ERR_NOT_SALTED, ERR_SALT_LENGTH, ERR_BLOCKS, ERR_PADDING, ERR_CAPACITY}
use Rattle.des_io.specs.PaddedBytes.{padded}
use Rattle.des_io.specs.Streams.{joined}
use Rattle.des_io.specs.declared.padding.Padding.TheVariants.{Pkcs7}
use Rattle.des_passwords.specs.Derivations.{derived, HasNoIteration, IsDerivable}
use Rattle.des_passwords.specs.Salted.{IsSalted}
use Rattle.des_passwords.specs.declared.derivation.Derivation.{Derivation}

-- ---- what is opened

-- the bytes of the blocks that CBC encrypted to these from a vector
abbrev pub IsPlainOf : (List ℕ → List ℕ → Type 0) → List ℕ → List (List ℕ) → List ℕ → Type 0
IsPlainOf relation vector blocks bytes = (p : List (List ℕ)) × CbcUnder relation vector p blocks × (joined p ≡ bytes)

-- bytes and their padding, by PKCS#7, are what was encrypted by CBC from a vector
abbrev pub IsOpened : (List ℕ → List ℕ → Type 0) → List ℕ → List ℕ → List ℕ → Type 0
IsOpened relation vector encrypted plain =
    AreWhole encrypted × IsPlainOf relation vector (blocks_of encrypted) (padded Pkcs7 plain)

-- there is a plaintext of the blocks at the front, and that and the end are what is opened
pub record EndsWith (relation : List ℕ → List ℕ → Type 0) (vector encrypted : List ℕ) (front : List (List ℕ))
    (end : List ℕ) : Type 0 where
  pub some : (start : List ℕ) × IsPlainOf relation vector front start
  pub opens : (start : List ℕ) → IsPlainOf relation vector front start
      → IsTheOne (IsOpened relation vector encrypted) (start ++ end)

-- the key of `size` bytes and the vector are those of a password and of the salt before what is encrypted
pub record IsUnder (size : ℕ) (derivation : Option Derivation) (password bytes key vector encrypted : List ℕ) : Type 0 where
  pub by : Derivation
  pub salt : List ℕ
  pub is_by : derivation ≡ Some by
  pub derivable : IsDerivable by (size + 8)
  pub is_salted : IsSalted bytes salt encrypted
  pub size_of_key : length key ≡ size
  pub derives : key ++ vector ≡ derived by password salt (size + 8)

pub record HoldsPlain (size : ℕ) (derivation : Option Derivation) (password bytes plain : List ℕ) : Type 0 where
  pub key : List ℕ
  pub vector : List ℕ
  pub encrypted : List ℕ
  pub under : IsUnder size derivation password bytes key vector encrypted
  pub opened : IsOpened (relation_of key) vector encrypted plain

-- ---- what is not

-- the first fault of a derivation and of bytes that begin with a salt
abbrev pub IsPartsFault : Option Derivation → List ℕ → ℤ → Type 0
IsPartsFault None bytes status = status ≡ ERR_HASH
IsPartsFault (Some derivation) bytes status =
    ((status ≡ ERR_NOT_SALTED) × (take 8 bytes ≢ codes "Salted__"))
    ⊎ ((status ≡ ERR_SALT_LENGTH) × (take 8 bytes ≡ codes "Salted__") × (length bytes < 16))
    ⊎ ((status ≡ ERR_ITERATIONS) × (take 8 bytes ≡ codes "Salted__") × (16 ≤ length bytes) × HasNoIteration derivation)

-- the first fault of what is encrypted: it is not whole blocks, it is of no bytes with their padding, or the buffer is
-- shorter than the text
abbrev pub IsOpeningFault : (List ℕ → List ℕ → Type 0) → List ℕ → List ℕ → ℕ → ℤ → Type 0
IsOpeningFault relation vector encrypted capacity status =
    ((status ≡ ERR_BLOCKS) × ¬ (AreWhole encrypted))
    ⊎ ((status ≡ ERR_PADDING) × AreWhole encrypted × ((plain : List ℕ) → ¬ (IsOpened relation vector encrypted plain)))
    ⊎ ((status ≡ ERR_CAPACITY)
    × ((plain : List ℕ) × (IsOpened relation vector encrypted plain × (capacity < length plain))))

-- the first fault of a derivation, of bytes that begin with a salt, and then of what is encrypted
abbrev pub IsSaltedFault : ℕ → Option Derivation → List ℕ → List ℕ → ℕ → ℤ → Type 0
IsSaltedFault size derivation password bytes capacity status =
    IsPartsFault derivation bytes status
    ⊎ (key : List ℕ) × ((vector : List ℕ) × ((encrypted : List ℕ)
    × (IsUnder size derivation password bytes key vector encrypted
    × IsOpeningFault (relation_of key) vector encrypted capacity status)))

-- ---- what a call does

-- it writes the one plaintext that there is, as `Holds` says, to the front of a buffer, and its size; or nothing, at a
-- fault, if there is none that fits
pub record Opens (Holds : List ℕ → Type 0) (IsFault : ℤ → Type 0) (old new : List ℕ) (old_size size : ℕ) (status : ℤ)
    : Type 0 where
  pub opened : status ≡ OK → (plain : List ℕ) × IsTheOne Holds plain
      × (length plain ≡ size) × (new ≡ plain ++ drop size old)
  pub refused : status ≢ OK → IsFault status × ((plain : List ℕ) → Holds plain → length old < length plain)
      × (new ≡ old) × (size ≡ old_size)
