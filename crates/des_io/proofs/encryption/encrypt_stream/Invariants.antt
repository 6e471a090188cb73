use Rattle.std.proofs.Common.{◌≡◌, length}
use Rattle.des_io.specs.Streams.{passage_of}
use Rattle.des_io.proofs.EncryptedPieces.{EncryptsBlocks}
use Rattle.des_io.proofs.encryption.encrypt_stream.Given as goal

-- what was read is enciphered and written, and the mode goes on from it
abbrev pub invariant-loop : goal.invariant-loop
invariant-loop g l = record {
  count : length l.bytes ≡ length l.initial.bytes;
  so_far : EncryptsBlocks (g.C.BlockCipherEncrypt.encrypted l.cipher) l.initial.mode l.mode
      (passage_of (g.R.Read.remaining l.initial.reader) (g.R.Read.remaining l.reader)
      (g.W.Write.contents l.initial.writer) (g.W.Write.contents l.writer));
}
