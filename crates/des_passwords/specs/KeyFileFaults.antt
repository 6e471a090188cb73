-- Why an encrypted private key is not read, and the texts of the errors.
use Rattle.std.specs.Prelude.{ℕ, List, codes}
use Rattle.des_passwords.specs.declared.key_file_error.KeyFileError.{KeyFileError}
use Rattle.des_passwords.specs.declared.key_file_error.KeyFileError.TheVariants as errors

-- an error without where its object identifier lies in memory
pub data Fault : Type 0 where
  Structure : Fault
  Algorithm : List ℕ → Fault
  KeyDerivation : List ℕ → Fault
  Iterations : Fault
  KeyLength : Fault
  Prf : List ℕ → Fault
  Cipher : List ℕ → Fault

abbrev pub fault_of : KeyFileError → Fault
fault_of errors.Structure = Structure
fault_of (errors.Algorithm oid) = Algorithm oid.now
fault_of (errors.KeyDerivation oid) = KeyDerivation oid.now
fault_of errors.Iterations = Iterations
fault_of errors.KeyLength = KeyLength
fault_of (errors.Prf oid) = Prf oid.now
fault_of (errors.Cipher oid) = Cipher oid.now

abbrev pub text_of : KeyFileError → List ℕ
text_of errors.Structure = codes "the bytes are not the DER of an encrypted private key"
text_of (errors.Algorithm oid) = codes "the algorithm is neither PBES2 nor one of DES or triple DES by PKCS #5 or PKCS #12"
text_of (errors.KeyDerivation oid) = codes "the key is not derived by PBKDF2"
text_of errors.Iterations = codes "there are no iterations, or more than are allowed"
text_of errors.KeyLength = codes "the key does not have 24 bytes"
text_of (errors.Prf oid) = codes "PBKDF2 uses neither HMAC-SHA-1 nor HMAC-SHA-256"
text_of (errors.Cipher oid) = codes "the cipher is not DES-EDE3-CBC"
