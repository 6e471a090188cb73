use Rattle.std.proofs.Common.{◌≡◌, ◌≤◌, length}
use Rattle.des_modes.specs.States.{HasBegun}
use Rattle.des_io.specs.Streams.{passage_of}
use Rattle.des_io.proofs.AppliedPieces.{AppliesAll}
use Rattle.des_io.proofs.stream_cipher.apply_stream.Given as goal

-- what was read went through and was written, and the stream stands behind it
abbrev pub invariant-loop : goal.invariant-loop
invariant-loop g l = record {
  capacity : length l.buffer ≡ l.capacity;
  begun : HasBegun l.stream;
  within : l.count ≤ l.limit;
  so_far : AppliesAll (g.C.BlockCipherEncrypt.encrypted l.cipher) l.direction l.initial.stream l.stream l.count
      (passage_of (g.R.Read.remaining l.initial.reader) (g.R.Read.remaining l.reader)
      (g.W.Write.contents l.initial.writer) (g.W.Write.contents l.writer));
}
