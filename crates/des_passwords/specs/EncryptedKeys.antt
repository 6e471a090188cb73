-- Encrypted private keys of PKCS #8 (RFC 5958, section 3) under PBES1 and PBES2 (RFC 8018, section 6 and appendix A), and
-- under PKCS #12's schemes of triple DES (RFC 7292, appendix C), read with the first fault that is met; the key of the file.
use Rattle.std.specs.Prelude.{ℕ, List, [], ◌∷◌, ◌++◌, length, take, drop, replicate, Result, Ok, Err, ◌==◌, if◌then◌else◌}
use Rattle.std.specs.Str.{bytes_eq}
use Rattle.md5.specs.Md5.{md5}
use Rattle.sha1.specs.Sha1.{sha1}
use Rattle.sha2.specs.Sha256.{sha256}
use Rattle.des_passwords.specs.BytesToKey.{bytes_to_key}
use Rattle.des_passwords.specs.DerReading.{◌>>=◌, at_end, digits_of, element_at, last_element_at, whole_element_at, iterations_at}
use Rattle.des_passwords.specs.Hmac.{hmac}
use Rattle.des_passwords.specs.Pbkdf1.{pbkdf1}
use Rattle.des_passwords.specs.Pbkdf2.{pbkdf2}
use Rattle.des_passwords.specs.Pkcs12.{pkcs12}
use Rattle.des_passwords.specs.declared.encrypted_keys.EncryptedKey.{EncryptedKey}
use Rattle.des_passwords.specs.declared.encrypted_keys.Parameters.{Parameters}
use Rattle.des_passwords.specs.declared.encrypted_keys.Scheme.{Scheme}
use Rattle.des_passwords.specs.declared.encrypted_keys.Scheme.TheVariants.{Pbes1Md5, Pbes1Sha1, Pkcs12ThreeKeys, Pkcs12TwoKeys, Pbes2Sha1, Pbes2Sha256, DekInfoDes, DekInfoTripleDes}
use Rattle.des_passwords.specs.KeyFileFaults.{Fault, Structure, Algorithm, KeyDerivation, KeyLength, Prf, Cipher}

-- object identifiers, as their contents in DER: those of RFC 8018, appendix C, 1.2.840.113549.1.5.3, .10, .13 and .12,
-- 1.2.840.113549.2.7 and .9, and 1.2.840.113549.3.7; of RFC 7292, appendix C, 1.2.840.113549.1.12.1.3 and .4
abbrev pub pbe_md5_des : List ℕ
pbe_md5_des = 0x2a ∷ 0x86 ∷ 0x48 ∷ 0x86 ∷ 0xf7 ∷ 0x0d ∷ 0x01 ∷ 0x05 ∷ 0x03 ∷ []

abbrev pub pbe_sha1_des : List ℕ
pbe_sha1_des = 0x2a ∷ 0x86 ∷ 0x48 ∷ 0x86 ∷ 0xf7 ∷ 0x0d ∷ 0x01 ∷ 0x05 ∷ 0x0a ∷ []

abbrev pub pbe_sha1_three_keys : List ℕ
pbe_sha1_three_keys = 0x2a ∷ 0x86 ∷ 0x48 ∷ 0x86 ∷ 0xf7 ∷ 0x0d ∷ 0x01 ∷ 0x0c ∷ 0x01 ∷ 0x03 ∷ []

abbrev pub pbe_sha1_two_keys : List ℕ
pbe_sha1_two_keys = 0x2a ∷ 0x86 ∷ 0x48 ∷ 0x86 ∷ 0xf7 ∷ 0x0d ∷ 0x01 ∷ 0x0c ∷ 0x01 ∷ 0x04 ∷ []

abbrev pub pbes2 : List ℕ
pbes2 = 0x2a ∷ 0x86 ∷ 0x48 ∷ 0x86 ∷ 0xf7 ∷ 0x0d ∷ 0x01 ∷ 0x05 ∷ 0x0d ∷ []

abbrev pub id_pbkdf2 : List ℕ
id_pbkdf2 = 0x2a ∷ 0x86 ∷ 0x48 ∷ 0x86 ∷ 0xf7 ∷ 0x0d ∷ 0x01 ∷ 0x05 ∷ 0x0c ∷ []

abbrev pub hmac_sha1 : List ℕ
hmac_sha1 = 0x2a ∷ 0x86 ∷ 0x48 ∷ 0x86 ∷ 0xf7 ∷ 0x0d ∷ 0x02 ∷ 0x07 ∷ []

abbrev pub hmac_sha256 : List ℕ
hmac_sha256 = 0x2a ∷ 0x86 ∷ 0x48 ∷ 0x86 ∷ 0xf7 ∷ 0x0d ∷ 0x02 ∷ 0x09 ∷ []

abbrev pub des_ede3_cbc : List ℕ
des_ede3_cbc = 0x2a ∷ 0x86 ∷ 0x48 ∷ 0x86 ∷ 0xf7 ∷ 0x0d ∷ 0x03 ∷ 0x07 ∷ []

-- the element NULL
abbrev pub null : List ℕ
null = 0x05 ∷ 0x00 ∷ []

-- what a file says of its encryption, without where it lies in memory
pub record Encryption : Type 0 where
  pub scheme : Scheme
  pub salt : List ℕ
  pub iterations : ℕ
  pub vector : List ℕ

abbrev pub view : Parameters → Encryption
view p = record { scheme = p.scheme; salt = p.salt.now; iterations = p.iterations; vector = p.vector }

-- what a file says: how a key is encrypted, and what
abbrev pub seen : EncryptedKey → Encryption × List ℕ
seen key = (view key.parameters, key.encrypted.now)

-- of eight octets
abbrev pub eight : List ℕ → Result (List ℕ) Fault
eight octets = if length octets == 8 then Ok octets else Err Structure

-- the salt: of PBES1 eight octets (RFC 8018, appendix A.3), of PKCS #12 any number
abbrev pub salt_of : Scheme → List ℕ → Result (List ℕ) Fault
salt_of Pkcs12ThreeKeys octets = Ok octets
salt_of Pkcs12TwoKeys octets = Ok octets
salt_of other octets = eight octets

-- PBEParameter (RFC 8018, appendix A.3), pkcs-12PbeParams (RFC 7292, appendix C): the salt, and the iterations
unfoldable pub pbe_of : ℕ → Scheme → List ℕ → Result Encryption Fault
pbe_of most scheme bytes = do
  parameters ← last_element_at 0x30 bytes
  salt ← element_at 0x04 parameters
  octets ← salt_of scheme salt.0
  count ← iterations_at most salt.1
  at_end count.1 (record { scheme = scheme; salt = octets; iterations = count.0; vector = replicate 8 0 })

-- the length of the key (appendix A.2), which is 24, and what follows it
unfoldable pub given_length : List ℕ → Result (List ℕ) Fault
given_length bytes = do
  element ← element_at 0x02 bytes
  digits ← digits_of element.0
  if bytes_eq digits (24 ∷ []) then Ok element.1 else Err KeyLength

-- it may be left out
unfoldable pub after_key_length : List ℕ → Result (List ℕ) Fault
after_key_length [] = Ok []
after_key_length (tag ∷ rest) = if tag == 0x02 then given_length (tag ∷ rest) else Ok (tag ∷ rest)

-- the function of PBKDF2, by its object identifier: its parameters are NULL
abbrev pub with_null : Scheme → List ℕ → Result Scheme Fault
with_null scheme parameters = if bytes_eq parameters null then Ok scheme else Err Structure

unfoldable pub prf_named : List ℕ → List ℕ → Result Scheme Fault
prf_named oid parameters =
    if bytes_eq oid hmac_sha1 then with_null Pbes2Sha1 parameters
    else if bytes_eq oid hmac_sha256 then with_null Pbes2Sha256 parameters
    else Err (Prf oid)

-- it may be left out, and is then HMAC-SHA-1
unfoldable pub prf_of : List ℕ → Result Scheme Fault
prf_of [] = Ok Pbes2Sha1
prf_of (tag ∷ rest) = do
  prf ← last_element_at 0x30 (tag ∷ rest)
  oid ← element_at 0x06 prf
  prf_named oid.0 oid.1

-- PBKDF2-params (appendix A.2), with the vector of the cipher
unfoldable pub derivation_of : ℕ → List ℕ → List ℕ → Result Encryption Fault
derivation_of most vector bytes = do
  parameters ← last_element_at 0x30 bytes
  salt ← element_at 0x04 parameters
  count ← iterations_at most salt.1
  rest ← after_key_length count.1
  scheme ← prf_of rest
  Ok (record { scheme = scheme; salt = salt.0; iterations = count.0; vector = vector })

-- the function that derives the key, PBKDF2, and its parameters
unfoldable pub pbkdf2_of : ℕ → List ℕ → List ℕ → Result Encryption Fault
pbkdf2_of most bytes vector = do
  oid ← element_at 0x06 bytes
  if bytes_eq oid.0 id_pbkdf2 then derivation_of most vector oid.1 else Err (KeyDerivation oid.0)

-- an element of eight octets that nothing follows
unfoldable pub eight_at : List ℕ → Result (List ℕ) Fault
eight_at bytes = do
  octets ← last_element_at 0x04 bytes
  eight octets

-- the cipher (appendix B.2.2), whose parameter is the vector
unfoldable pub vector_at : List ℕ → Result (List ℕ) Fault
vector_at bytes = do
  cipher ← last_element_at 0x30 bytes
  oid ← element_at 0x06 cipher
  if bytes_eq oid.0 des_ede3_cbc then eight_at oid.1 else Err (Cipher oid.0)

-- PBES2-params (appendix A.4)
unfoldable pub pbes2_of : ℕ → List ℕ → Result Encryption Fault
pbes2_of most bytes = do
  parameters ← last_element_at 0x30 bytes
  derivation ← element_at 0x30 parameters
  vector ← vector_at derivation.1
  pbkdf2_of most derivation.0 vector

-- the schemes that derive the vector with the key, by their object identifiers
unfoldable pub pbe_named : List ℕ → Result Scheme Fault
pbe_named oid =
    if bytes_eq oid pbe_md5_des then Ok Pbes1Md5
    else if bytes_eq oid pbe_sha1_des then Ok Pbes1Sha1
    else if bytes_eq oid pbe_sha1_three_keys then Ok Pkcs12ThreeKeys
    else if bytes_eq oid pbe_sha1_two_keys then Ok Pkcs12TwoKeys
    else Err (Algorithm oid)

unfoldable pub pbe_by : ℕ → List ℕ → List ℕ → Result Encryption Fault
pbe_by most oid parameters = do
  scheme ← pbe_named oid
  pbe_of most scheme parameters

-- the algorithm with its parameters, by its object identifier
unfoldable pub encryption_named : ℕ → List ℕ → List ℕ → Result Encryption Fault
encryption_named most oid parameters =
    if bytes_eq oid pbes2 then pbes2_of most parameters else pbe_by most oid parameters

unfoldable pub encryption_of : ℕ → List ℕ → Result Encryption Fault
encryption_of most bytes = do
  oid ← element_at 0x06 bytes
  encryption_named most oid.0 oid.1

-- EncryptedPrivateKeyInfo (RFC 5958, section 3), which blanks may follow: how it is encrypted, and what
unfoldable pub encrypted_key_of : ℕ → List ℕ → Result (Encryption × List ℕ) Fault
encrypted_key_of most bytes = do
  key ← whole_element_at 0x30 bytes
  algorithm ← element_at 0x30 key
  encrypted ← last_element_at 0x04 algorithm.1
  encryption ← encryption_of most algorithm.0
  Ok (encryption, encrypted)

-- ---- the key of the file

-- a key of DES as one of triple DES, which then is DES
abbrev pub thrice : List ℕ → List ℕ
thrice key = key ++ key ++ key

-- two keys of triple DES as three: the first is the third too
abbrev pub two_as_three : List ℕ → List ℕ
two_as_three key = key ++ take 8 key

-- the key for triple DES with three keys (RFC 8018, sections 6.1.2 and 6.2.2; RFC 7292, appendix B.3)
abbrev pub key_of : Scheme → List ℕ → List ℕ → ℕ → List ℕ
key_of Pbes1Md5 password salt count = thrice (take 8 (pbkdf1 md5 password salt count 16))
key_of Pbes1Sha1 password salt count = thrice (take 8 (pbkdf1 sha1 password salt count 16))
key_of Pkcs12ThreeKeys password salt count = pkcs12 sha1 20 1 password salt count 24
key_of Pkcs12TwoKeys password salt count = two_as_three (pkcs12 sha1 20 1 password salt count 16)
key_of Pbes2Sha1 password salt count = pbkdf2 (hmac sha1 password) 20 salt count 24
key_of Pbes2Sha256 password salt count = pbkdf2 (hmac sha256 password) 32 salt count 24
key_of DekInfoDes password salt count = thrice (bytes_to_key md5 16 password salt count 8)
key_of DekInfoTripleDes password salt count = bytes_to_key md5 16 password salt count 24

-- the vector: derived with the key under PBES1 and by PKCS #12, and else that of the file
abbrev pub vector_of : Scheme → List ℕ → List ℕ → ℕ → List ℕ → List ℕ
vector_of Pbes1Md5 password salt count vector = drop 8 (pbkdf1 md5 password salt count 16)
vector_of Pbes1Sha1 password salt count vector = drop 8 (pbkdf1 sha1 password salt count 16)
vector_of Pkcs12ThreeKeys password salt count vector = pkcs12 sha1 20 2 password salt count 8
vector_of Pkcs12TwoKeys password salt count vector = pkcs12 sha1 20 2 password salt count 8
vector_of Pbes2Sha1 password salt count vector = vector
vector_of Pbes2Sha256 password salt count vector = vector
vector_of DekInfoDes password salt count vector = vector
vector_of DekInfoTripleDes password salt count vector = vector
