-- Encrypted private keys of PKCS #8 (RFC 5958, section 3) under PBES1 and PBES2 (RFC 8018, section 6 and appendix A), and
-- under PKCS #12's schemes of triple DES (RFC 7292, appendix C), written in DER.
use Rattle.std.specs.Prelude.{◌≡◌, ℕ, ◌<◌, ◌≤◌, ◌^◌, Bool, true, false, List, [], ◌++◌, length, replicate}
use Rattle.des_passwords.specs.Der.{element, integer}
use Rattle.des_passwords.specs.EncryptedKeys.{Encryption, pbe_md5_des, pbe_sha1_des, pbe_sha1_three_keys, pbe_sha1_two_keys, pbes2, id_pbkdf2, hmac_sha1, hmac_sha256, des_ede3_cbc, null}
use Rattle.des_passwords.specs.TextLines.{are_blanks}
use Rattle.des_passwords.specs.declared.encrypted_keys.Scheme.{Scheme}
use Rattle.des_passwords.specs.declared.encrypted_keys.Scheme.TheVariants.{Pbes1Md5, Pbes1Sha1, Pkcs12ThreeKeys, Pkcs12TwoKeys, Pbes2Sha1, Pbes2Sha256, DekInfoDes, DekInfoTripleDes}

-- whether a file names what it may leave out: the length of the key, and the function of PBKDF2 if it is HMAC-SHA-1.
-- As a default DER leaves this one out (ITU-T X.690, section 11.5); if it is named, it is read too.
pub record Named : Type 0 where
  pub key_length : Bool
  pub prf : Bool

-- AlgorithmIdentifier ::= SEQUENCE { algorithm OBJECT IDENTIFIER, parameters }
abbrev pub algorithm : List ℕ → List ℕ → List ℕ
algorithm oid parameters = element 0x30 (element 0x06 oid ++ parameters)

-- PBEParameter ::= SEQUENCE { salt OCTET STRING (SIZE(8)), iterationCount INTEGER } (appendix A.3), and
-- pkcs-12PbeParams ::= SEQUENCE { salt OCTET STRING, iterations INTEGER } (RFC 7292, appendix C)
abbrev pub pbe_parameter : Encryption → List ℕ
pbe_parameter e = element 0x30 (element 0x04 e.salt ++ integer e.iterations)

-- keyLength INTEGER OPTIONAL, which is 24
abbrev pub key_length : Bool → List ℕ
key_length true = integer 24
key_length false = []

-- prf AlgorithmIdentifier DEFAULT algid-hmacWithSHA1, with parameters NULL (appendix B.1)
abbrev pub prf : Scheme → Bool → List ℕ
prf Pbes2Sha256 named = algorithm hmac_sha256 null
prf other true = algorithm hmac_sha1 null
prf other false = []

-- PBKDF2-params ::= SEQUENCE { salt OCTET STRING, iterationCount INTEGER, keyLength, prf } (appendix A.2)
abbrev pub pbkdf2_params : Named → Encryption → List ℕ
pbkdf2_params named e =
    element 0x30
    (element 0x04 e.salt ++ (integer e.iterations ++ (key_length named.key_length ++ prf e.scheme named.prf)))

-- PBES2-params ::= SEQUENCE { keyDerivationFunc AlgorithmIdentifier, encryptionScheme AlgorithmIdentifier }
-- (appendix A.4), where the parameter of the cipher is its vector (appendix B.2.2)
abbrev pub pbes2_params : Named → Encryption → List ℕ
pbes2_params named e =
    element 0x30 (algorithm id_pbkdf2 (pbkdf2_params named e) ++ algorithm des_ede3_cbc (element 0x04 e.vector))

-- encryptionAlgorithm: pbeWithMD5AndDES-CBC or pbeWithSHA1AndDES-CBC (appendix A.3), pbeWithSHAAnd3-KeyTripleDES-CBC or
-- pbeWithSHAAnd2-KeyTripleDES-CBC (RFC 7292, appendix C), or PBES2
abbrev pub encryption_algorithm : Named → Encryption → Scheme → List ℕ
encryption_algorithm named e Pbes1Md5 = algorithm pbe_md5_des (pbe_parameter e)
encryption_algorithm named e Pbes1Sha1 = algorithm pbe_sha1_des (pbe_parameter e)
encryption_algorithm named e Pkcs12ThreeKeys = algorithm pbe_sha1_three_keys (pbe_parameter e)
encryption_algorithm named e Pkcs12TwoKeys = algorithm pbe_sha1_two_keys (pbe_parameter e)
encryption_algorithm named e other = algorithm pbes2 (pbes2_params named e)

-- EncryptedPrivateKeyInfo ::= SEQUENCE { encryptionAlgorithm AlgorithmIdentifier, encryptedData OCTET STRING }
-- (RFC 5958, section 3)
abbrev pub key_contents : Named → Encryption → List ℕ → List ℕ
key_contents named e encrypted = encryption_algorithm named e e.scheme ++ element 0x04 encrypted

abbrev pub key_file : Named → Encryption → List ℕ → List ℕ
key_file named e encrypted = element 0x30 (key_contents named e encrypted)

-- PBES1 has a salt of eight octets, it and PKCS #12 no vector of their own, PBES2 a vector of eight; a PEM header is not
-- written so
abbrev pub IsInFile : Scheme → Encryption → Type 0
IsInFile Pbes1Md5 e = (length e.salt ≡ 8) × (e.vector ≡ replicate 8 0)
IsInFile Pbes1Sha1 e = (length e.salt ≡ 8) × (e.vector ≡ replicate 8 0)
IsInFile Pkcs12ThreeKeys e = e.vector ≡ replicate 8 0
IsInFile Pkcs12TwoKeys e = e.vector ≡ replicate 8 0
IsInFile Pbes2Sha1 e = length e.vector ≡ 8
IsInFile Pbes2Sha256 e = length e.vector ≡ 8
IsInFile DekInfoDes e = ⊥
IsInFile DekInfoTripleDes e = ⊥

-- what a file says, whose contents have fewer than 2 ^ 16 octets, of one to `most` iterations
pub record IsRead (most : ℕ) (named : Named) (e : Encryption) (encrypted : List ℕ) : Type 0 where
  pub scheme : IsInFile e.scheme e
  pub some : 0 < e.iterations
  pub few : e.iterations ≤ most
  pub size : length (key_contents named e encrypted) < 2 ^ 16

-- a file that says so, which blanks may follow
abbrev pub IsFile : ℕ → Encryption → List ℕ → List ℕ → Type 0
IsFile most e encrypted bytes =
    (named : Named) × (blanks : List ℕ) × IsRead most named e encrypted × (are_blanks blanks ≡ true)
    × (bytes ≡ key_file named e encrypted ++ blanks)
