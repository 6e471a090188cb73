-- How `openssl enc` derives key and vector from a password and a salt (manual page openssl-enc(1)).
use Rattle.std.specs.Prelude.{◌≡◌, ◌≢◌, ℕ, ◌*◌, ◌<◌, ◌≤◌, List}
use Rattle.md5.specs.Md5.{md5}
use Rattle.sha1.specs.Sha1.{sha1}
use Rattle.sha2.specs.Sha256.{sha256}
use Rattle.des_passwords.specs.BytesToKey.{bytes_to_key}
use Rattle.des_passwords.specs.Hmac.{hmac}
use Rattle.des_passwords.specs.Pbkdf2.{pbkdf2}
use Rattle.des_passwords.specs.declared.derivation.Derivation.{Derivation}
use Rattle.des_passwords.specs.declared.derivation.Derivation.TheVariants.{Md5, Sha1, Sha256, Pbkdf2Sha1, Pbkdf2Sha256}

-- key and vector, of `length` bytes together
abbrev pub derived : Derivation → List ℕ → List ℕ → ℕ → List ℕ
derived Md5 password salt length = bytes_to_key md5 16 password salt 1 length
derived Sha1 password salt length = bytes_to_key sha1 20 password salt 1 length
derived Sha256 password salt length = bytes_to_key sha256 32 password salt 1 length
derived (Pbkdf2Sha1 count) password salt length = pbkdf2 (hmac sha1 password) 20 salt count length
derived (Pbkdf2Sha256 count) password salt length = pbkdf2 (hmac sha256 password) 32 salt count length

-- there is an iteration, and a key of this length can be derived: PBKDF2 gives 2 ^ 32 - 1 digests at most
abbrev pub IsDerivable : Derivation → ℕ → Type 0
IsDerivable Md5 length = Unit {0}
IsDerivable Sha1 length = Unit {0}
IsDerivable Sha256 length = Unit {0}
IsDerivable (Pbkdf2Sha1 count) length = (count ≢ 0) × (length ≤ 0xFFFFFFFF * 20)
IsDerivable (Pbkdf2Sha256 count) length = (count ≢ 0) × (length ≤ 0xFFFFFFFF * 32)

-- PBKDF2 with no iteration
abbrev pub HasNoIteration : Derivation → Type 0
HasNoIteration Md5 = ⊥
HasNoIteration Sha1 = ⊥
HasNoIteration Sha256 = ⊥
HasNoIteration (Pbkdf2Sha1 count) = count ≡ 0
HasNoIteration (Pbkdf2Sha256 count) = count ≡ 0

-- PBKDF2 of more bytes than it gives
abbrev pub IsTooLong : Derivation → ℕ → Type 0
IsTooLong Md5 length = ⊥
IsTooLong Sha1 length = ⊥
IsTooLong Sha256 length = ⊥
IsTooLong (Pbkdf2Sha1 count) length = (count ≢ 0) × (0xFFFFFFFF * 20 < length)
IsTooLong (Pbkdf2Sha256 count) length = (count ≢ 0) × (0xFFFFFFFF * 32 < length)
