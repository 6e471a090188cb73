-- What a key and a vector decrypt of a private key under a password.
use Rattle.std.specs.Prelude.{◌≡◌, ◌≢◌, ◌⊎◌, ℕ, ◌%◌, List, [], length, Option, Some, IsTrue, false}
use Rattle.des.specs.Relations.{AgreeOnBlocks}
use Rattle.des.specs.TripleCiphers.{ede3_decryption}
use Rattle.des_io.specs.Streams.{passage_of, Decrypts}
use Rattle.des_io.specs.StreamFaults.{IsWronglyPadded}
use Rattle.des_io.specs.declared.error.StreamError.{StreamError}
use Rattle.des_io.specs.declared.error.StreamError.TheVariants.{Read, Write, Length as CutBlock, Start, Padding}
use Rattle.des_io.specs.declared.mode.BlockMode.TheVariants.{Cbc}
use Rattle.des_io.specs.declared.padding.Padding.TheVariants.{Pkcs7}
use Rattle.des_lines.specs.declared.fault.FileFault.TheVariants.{KeyPadding, Password}
use Rattle.des_lines.specs.declared.fault.FaultKind.{FaultKind}
use Rattle.des_lines.specs.declared.fault.FaultKind.TheVariants.{File, Length, Memory}
use Rattle.des_commands.specs.PrivateKeys.{is_sequence}

-- all of the bytes, decrypted by triple DES in CBC from the vector, without the padding of PKCS #7, by a function that
-- answers each block as the key does
abbrev pub IsPlain : (key vector encrypted plain : List ℕ) → Type 0
IsPlain key vector encrypted plain =
    (decrypted : List ℕ → List ℕ) × AgreeOnBlocks decrypted (ede3_decryption key)
    × Decrypts decrypted (Cbc vector) Pkcs7 (passage_of (Some encrypted) (Some []) (Some []) (Some plain))

-- they are one sequence in DER
abbrev pub IsDecryptedKey : (key vector encrypted plain : List ℕ) → Type 0
IsDecryptedKey key vector encrypted plain = IsPlain key vector encrypted plain × IsTrue (is_sequence plain)

-- all of the bytes are blocks, and decrypted so they do not end with the padding of PKCS #7
abbrev pub HasOtherPadding : (key vector encrypted : List ℕ) → Type 0
HasOtherPadding key vector encrypted =
    (decrypted : List ℕ → List ℕ) × AgreeOnBlocks decrypted (ede3_decryption key)
    × ((read_to : Option (List ℕ)) × (written_to : Option (List ℕ))
    × IsWronglyPadded decrypted (Cbc vector) Pkcs7 (passage_of (Some encrypted) read_to (Some []) written_to))

-- the fault of a private key, of one of its bytes: a list of bytes fails to grow only if memory is refused
abbrev pub private_key_fault : StreamError → FaultKind
private_key_fault (Read error) = Memory
private_key_fault (Write error) = Memory
private_key_fault (CutBlock past) = Length
private_key_fault Start = Length
private_key_fault Padding = File KeyPadding

-- no whole blocks, another padding, no sequence, or memory that was refused
abbrev pub FailsAsPrivateKey : (key vector encrypted : List ℕ) → FaultKind → Type 0
FailsAsPrivateKey key vector encrypted kind =
    ((kind ≡ Length) × (length encrypted % 8 ≢ 0))
    ⊎ ((kind ≡ File KeyPadding) × HasOtherPadding key vector encrypted)
    ⊎ ((plain : List ℕ) × IsPlain key vector encrypted plain × (is_sequence plain ≡ false) × (kind ≡ File Password))
    ⊎ (kind ≡ Memory)
