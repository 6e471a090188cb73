use Rattle.std.proofs.Common.{◌≡◌, ℕ, ◌%◌, List, length, ap, ◌∙◌, arith}
use Rattle.des_columns.specs.EncryptedBytes.{joined}
use Rattle.des_columns.proofs.JoinedBlocks.{joined_chunks}
use Rattle.des_columns.proofs.writing.write_blocks.Goals as goal

pub returns : goal.returns
returns c =
    let bytes : List ℕ = c.write_padded.new.bytes in
    let whole : length bytes % 8 ≡ 0 = omega (arith, c.write_padded.auto.bytes, c.requires.place) in
    ap joined (c.copy_from_slice.ensures.after ∙ c.as_chunks.ensures.front) ∙ joined_chunks bytes whole ∙ c.write_padded.ensures
