use Rattle.std.proofs.Common.{w64, sym, ◌∙◌}
use Rattle.std.specs.Int.{to_le_bytes}
use Rattle.des.specs.Laws.BlockBits.{block_of_bits-bits_of_bytes}
use Rattle.des_fast.proofs.PlacedBytes.{IsBlock-to_le_bytes}
use Rattle.des_fast.proofs.slices.rows.little_endian_block.Goals as goal

pub returns : goal.returns
returns c =
    c.to_le_bytes.ensures
    ∙ sym (block_of_bits-bits_of_bytes (to_le_bytes w64 c.args.word) (IsBlock-to_le_bytes c.args.word))
