-- The forms of a cipher: the parts of their keys, and what a key makes of a block (FIPS 46-3).
use Rattle.std.specs.Prelude.{ℕ, List, length, nat_eq, if◌then◌else◌}
use Rattle.des.specs.Enciphering.{Enciphers}
use Rattle.des.specs.Triple.{EnciphersEde2, EnciphersEde3}
use Rattle.des.specs.Des.{encryption, decryption}
use Rattle.des.specs.TripleCiphers.{ede3_encryption, ede3_decryption, ede2_encryption, ede2_decryption}
use Rattle.des_context.specs.declared.ciphers.CipherType.{CipherType}
use Rattle.des_context.specs.declared.ciphers.CipherType.TheVariants.{Des, Ede2, Ede3}

-- the parts of a key, each of 8 bytes
abbrev pub parts_of : CipherType → ℕ
parts_of Des = 1
parts_of Ede2 = 2
parts_of Ede3 = 3

-- the relation of a key: it takes a block to its encryption
abbrev pub relation_by : CipherType → List ℕ → List ℕ → List ℕ → Type 0
relation_by Des key x y = Enciphers key x y
relation_by Ede2 key x y = EnciphersEde2 key x y
relation_by Ede3 key x y = EnciphersEde3 key x y

-- the block that a key makes of a block, in each direction
abbrev pub encryption_by : CipherType → List ℕ → List ℕ → List ℕ
encryption_by Des = encryption
encryption_by Ede2 = ede2_encryption
encryption_by Ede3 = ede3_encryption

abbrev pub decryption_by : CipherType → List ℕ → List ℕ → List ℕ
decryption_by Des = decryption
decryption_by Ede2 = ede2_decryption
decryption_by Ede3 = ede3_decryption

-- the type of cipher of a key, by its length: 8, 16 or 24 bytes
abbrev pub cipher_type_of_length : ℕ → CipherType
cipher_type_of_length bytes = if nat_eq bytes 8 then Des else (if nat_eq bytes 16 then Ede2 else Ede3)

-- by the length of the key: DES under 8 bytes, triple DES in the EDE form under 16 or 24
abbrev pub relation_of : List ℕ → List ℕ → List ℕ → Type 0
relation_of key x y = relation_by (cipher_type_of_length (length key)) key x y

abbrev pub encryption_of : List ℕ → List ℕ → List ℕ
encryption_of key = encryption_by (cipher_type_of_length (length key)) key

abbrev pub decryption_of : List ℕ → List ℕ → List ℕ
decryption_of key = decryption_by (cipher_type_of_length (length key)) key
