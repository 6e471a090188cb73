use Rattle.std.proofs.Common.{◌≡◌, length}
use Rattle.des_io.specs.CipherModes.{mode_after}
use Rattle.des_io.specs.Streams.{passage_of, HoldsLast, IsLeft}
use Rattle.des_io.proofs.decryption.decrypt_blocks.Given as goal

-- what was read is deciphered and written but for the last block, and the mode goes on from it
abbrev pub invariant-loop : goal.invariant-loop
invariant-loop g l = record {
  count : length l.bytes ≡ length l.initial.bytes;
  so_far : HoldsLast (g.C.BlockCipherDecrypt.decrypted l.cipher) l.initial.mode
      (passage_of (g.R.Read.remaining l.initial.reader) (g.R.Read.remaining l.reader)
      (g.W.Write.contents l.initial.writer) (g.W.Write.contents l.writer)) l.pending;
  left : IsLeft l.initial.left (length so_far.q) l.left;
  after : l.mode ≡ mode_after l.initial.mode so_far.q;
}
