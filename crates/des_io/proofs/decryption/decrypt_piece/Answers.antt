use Rattle.std.proofs.Common.{◌∙◌, ap}
use Rattle.des_io.specs.Streams.{joined}
use Rattle.des_io.proofs.JoinedPieces.{joined_chunks}
use Rattle.des_io.proofs.ModesInPieces.{Deciphered-count}
use Rattle.des_io.proofs.decryption.decrypt_piece.Goals as goal

pub returns-clause-deciphered : goal.returns-clause-deciphered
returns-clause-deciphered g c =
    let mode = c.args.mode.now in
    record {
      q = c.as_chunks_mut-blocks.result.0.now;
      p = c.decrypt.new.blocks;
      blocks = c.decrypt.ensures.blocks;
      whole = ap joined c.as_chunks_mut-blocks.ensures.front ∙ joined_chunks c.args.bytes.now c.requires;
      deciphered = c.decrypt.ensures.deciphered;
      after = c.decrypt.ensures.after;
      count = Deciphered-count _ mode _ _ c.decrypt.ensures.deciphered;
      written = c.write_piece.ensures.written;
    }
