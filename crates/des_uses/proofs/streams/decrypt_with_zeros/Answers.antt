use Rattle.std.proofs.Common.{◌≢◌, ℕ, List, Result, Ok, Err, IfOk, IfErr, append-nil, subst}
use Rattle.des_io.specs.Streams.{Passage, Decrypts}
use Rattle.des_io.specs.StreamFaults.{FailsToDecrypt}
use Rattle.des_io.specs.declared.error.StreamError.{StreamError}
use Rattle.des_io.specs.declared.error.StreamError.TheVariants.{Padding as WrongPadding}
use Rattle.des_io.specs.declared.mode.BlockMode.{BlockMode}
use Rattle.des_io.specs.declared.padding.Padding.TheVariants.{Zeros, Unpadded}
use Rattle.des_io.specs.Streams.{joined}
use Rattle.des_uses.proofs.streams.decrypt_with_zeros.Goals as goal

-- no zeros are taken off
unpadded : (result : Result (Unit {0}) StreamError) (decryption : List ℕ → List ℕ) (mode : BlockMode) (passage : Passage)
    → IfOk result (λ _. Decrypts decryption mode Zeros passage)
    → IfOk result (λ _. Decrypts decryption mode Unpadded passage)
unpadded (Err fault) decryption mode passage done = tt
unpadded (Ok unit) decryption mode passage done = record {
  q = done.q;
  p = done.p;
  plain = done.plain;
  read = done.read;
  blocks = done.blocks;
  deciphered = done.deciphered;
  whole = done.whole;
  even = done.even;
  written = done.written;
}

-- so none are wrong
never_wrong : (result : Result (Unit {0}) StreamError) (decryption : List ℕ → List ℕ) (mode : BlockMode) (passage : Passage)
    → IfErr result (λ fault. FailsToDecrypt fault decryption mode Zeros passage)
    → IfErr result (λ fault. fault ≢ WrongPadding)
never_wrong (Ok unit) decryption mode passage fails = tt
never_wrong (Err fault) decryption mode passage fails = λ is.
    let wrong = subst (λ (f : StreamError). FailsToDecrypt f decryption mode Zeros passage) is fails in
    wrong.wrong (joined wrong.p) (append-nil (joined wrong.p))

pub returns-clause-done : goal.returns-clause-done
returns-clause-done g c = unpadded _ _ _ _ c.decrypt_stream.ensures.done

pub returns-clause-fault : goal.returns-clause-fault
returns-clause-fault g c = never_wrong _ _ _ _ c.decrypt_stream.ensures.fault
