use Rattle.std.proofs.Common.{◌∙◌, ap, subst, take, take_all, length, arith}
use Rattle.std.specs.Io.KnownBytes.{Appends}
use Rattle.des_io.specs.Streams.{joined}
use Rattle.des_io.proofs.JoinedPieces.{joined_chunks}
use Rattle.des_io.proofs.encryption.encrypt_piece.Goals as goal

pub returns-clause-enciphered : goal.returns-clause-enciphered
returns-clause-enciphered g c =
    let (count, within, written, full) = c.write_whole.ensures.written in
    let flat = c.as_flattened.ensures.value in
    record {
      p = c.as_chunks_mut-blocks.result.0.now;
      q = c.encrypt.new.blocks;
      count = count;
      blocks = c.encrypt.ensures.blocks;
      whole = ap joined c.as_chunks_mut-blocks.ensures.front ∙ joined_chunks c.args.bytes.now c.requires;
      enciphered = c.encrypt.ensures.enciphered;
      after = c.encrypt.ensures.after;
      written = subst (Appends _ _) (ap (take count) flat) written;
      all = λ succeeds. take_all count _ (omega (arith, full succeeds, ap length flat));
    }
