-- Keys from passwords by the numbers of hash functions.
use Rattle.std.specs.Prelude.{◌≡◌, ◌⊎◌, ℕ, ℤ, ◌==◌, if◌then◌else◌, nat_le, Option, Some, None}
use Rattle.des_context.specs.declared.passwords.TheConstants.{MD5, SHA1, SHA256}
use Rattle.des_context.specs.declared.status.TheConstants.{OK, ERR_HASH, ERR_ITERATIONS, ERR_KEY_LENGTH}
use Rattle.des_passwords.specs.Derivations.{IsDerivable, HasNoIteration, IsTooLong}
use Rattle.des_passwords.specs.declared.derivation.Derivation.{Derivation}
use Rattle.des_passwords.specs.declared.derivation.Derivation.TheVariants.{Md5, Sha1, Sha256, Pbkdf2Sha1, Pbkdf2Sha256}

-- PBKDF2 counts in 32 bits: more iterations are taken for 0, which it refuses
abbrev pub count_of : ℕ → ℕ
count_of iterations = if nat_le iterations 0xFFFFFFFF then iterations else 0

abbrev pub with_no_pbkdf2 : ℕ → Option Derivation
with_no_pbkdf2 hash =
    if hash == MD5 then Some Md5
    else if hash == SHA1 then Some Sha1
    else if hash == SHA256 then Some Sha256
    else None

abbrev pub with_pbkdf2 : ℕ → ℕ → Option Derivation
with_pbkdf2 hash iterations =
    if hash == SHA1 then Some (Pbkdf2Sha1 (count_of iterations))
    else if hash == SHA256 then Some (Pbkdf2Sha256 (count_of iterations))
    else None

-- as `openssl enc` derives: with no PBKDF2 if no iterations are said
abbrev pub derivation_by : ℕ → ℕ → Option Derivation
derivation_by hash iterations =
    if iterations == 0 then with_no_pbkdf2 hash else with_pbkdf2 hash iterations

-- the status of the derivation of a key of this length
abbrev pub IsDeriveStatus : Option Derivation → ℕ → ℤ → Type 0
IsDeriveStatus None length status = status ≡ ERR_HASH
IsDeriveStatus (Some by) length status =
    ((status ≡ OK) × IsDerivable by length) ⊎ ((status ≡ ERR_ITERATIONS) × HasNoIteration by)
    ⊎ ((status ≡ ERR_KEY_LENGTH) × IsTooLong by length)

-- OpenSSL's function reads 8 bytes of salt, or has none
abbrev pub IsSaltLength : ℕ → Type 0
IsSaltLength bytes = (bytes ≡ 0) ⊎ (bytes ≡ 8)
