-- What is read of a file, and that it is read.
use Rattle.std.proofs.Common.{◌≡◌, ◌∙◌, ap, subst, ℕ, ◌<◌, ◌^◌, List, Result, Ok, Err, IfOk}
use Rattle.des_passwords.specs.DerReading.{Gives}
use Rattle.des_passwords.specs.EncryptedKeys.{Encryption, encrypted_key_of, seen, view}
use Rattle.des_passwords.specs.KeySpellings.{IsFile}
use Rattle.des_passwords.specs.declared.encrypted_keys.EncryptedKey.{EncryptedKey}
use Rattle.des_passwords.specs.declared.key_file_error.KeyFileError.{KeyFileError}
use Rattle.des_passwords.proofs.DerElements.{IsBytes}
use Rattle.des_passwords.proofs.KeyReadings.{key_takes}
use Rattle.des_passwords.proofs.KeySpellings.{key_again}

pub found_is_file : (most : ℕ) (bytes : List ℕ) (result : Result EncryptedKey KeyFileError) → IsBytes bytes
    → Gives seen result (encrypted_key_of most bytes)
    → IfOk result (λ key. IsFile most (view key.parameters) key.encrypted.now bytes)
found_is_file most bytes (Ok key) fits gives =
    let says = key_takes most bytes (seen key) fits gives in
    (says.named, says.blanks, says.is_read, says.blank, says.parts)
found_is_file most bytes (Err error) fits gives = tt

pub file_is_found : (most : ℕ) (bytes : List ℕ) (result : Result EncryptedKey KeyFileError) → most < 2 ^ 32
    → Gives seen result (encrypted_key_of most bytes) → (e : Encryption) (encrypted : List ℕ)
    → IsFile most e encrypted bytes → Gives seen result (Ok (e, encrypted))
file_is_found most bytes result bound gives e encrypted file =
    let read : encrypted_key_of most bytes ≡ Ok (e, encrypted) =
    ap (encrypted_key_of most) file.4 ∙ key_again most file.0 file.1 e encrypted file.2 file.3 bound in
    subst (Gives seen result) read gives
