-- Why a stream does not decrypt a private key whole.
use Rattle.std.proofs.Common.{◌≡◌, ◌≢◌, ℕ, ◌%◌, List, [], ◌++◌, length, Option, Some, None, inl, inr, refl, sym, ap, ◌∙◌, append-nil}
use Rattle.des.specs.Relations.{AgreeOnBlocks}
use Rattle.des.specs.TripleCiphers.{ede3_decryption}
use Rattle.des_io.specs.Streams.{passage_of}
use Rattle.des_io.specs.StreamFaults.{EndsInBlock, FailsToDecrypt}
use Rattle.des_io.specs.declared.error.StreamError.{StreamError}
use Rattle.des_io.specs.declared.error.StreamError.TheVariants.{Read, Write, Length, Start, Padding}
use Rattle.des_io.specs.declared.mode.BlockMode.TheVariants.{Cbc}
use Rattle.des_io.specs.declared.padding.Padding.TheVariants.{Pkcs7}
use Rattle.des_commands.specs.DecryptedKeys.{FailsAsPrivateKey, private_key_fault}
use Rattle.des_commands.proofs.private_keys.plain_of.Goals as goal

-- the bytes end within a block
ended-in : (encrypted : List ℕ) (past : ℕ) (read_to : Option (List ℕ)) → EndsInBlock (Some encrypted) read_to past
    → length encrypted % 8 ≢ 0
ended-in encrypted past (Some rest) ends =
    let whole : encrypted ≡ ends.bytes = ends.read ∙ ap (λ (l : List ℕ). ends.bytes ++ l) ends.end
    ∙ append-nil ends.bytes in
    λ even. ends.some (sym ends.count ∙ ap (λ (l : List ℕ). length l % 8) (sym whole) ∙ even)
ended-in encrypted past None ends = absurd ends.read

key-fault : (fault : StreamError) (decrypted : List ℕ → List ℕ) (key vector encrypted : List ℕ)
    (read_to written_to : Option (List ℕ)) → AgreeOnBlocks decrypted (ede3_decryption key)
    → FailsToDecrypt fault decrypted (Cbc vector) Pkcs7 (passage_of (Some encrypted) read_to (Some []) written_to)
    → FailsAsPrivateKey key vector encrypted (private_key_fault fault)
key-fault (Read error) decrypted key vector encrypted read_to written_to alike fails = inr (inr (inr refl))
key-fault (Write error) decrypted key vector encrypted read_to written_to alike fails = inr (inr (inr refl))
key-fault (Length past) decrypted key vector encrypted read_to written_to alike fails =
    inl (refl, ended-in encrypted past read_to fails)
key-fault Start decrypted key vector encrypted read_to written_to alike fails = absurd fails
key-fault Padding decrypted key vector encrypted read_to written_to alike fails =
    inr (inl (refl, (decrypted, alike, (read_to, written_to, fails))))

pub returns-in-Err-clause-fault : goal.returns-in-Err-clause-fault
returns-in-Err-clause-fault c =
    rw c.fault_of.ensures
    (key-fault c.in-Err.error _ c.args.both.now.key c.args.both.now.vector c.args.encrypted.now _ _
    c.cipher_of.ensures.decrypts (rw c.new-plain.ensures.items at c.in-Err.ensures.fault))
