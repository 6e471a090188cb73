-- A block of each of two words.
use Rattle.std.proofs.Common.{ℕ, ◌+◌, ◌*◌, List, get_or, arith}
use Rattle.des_fast.specs.Slices.{bit_at_place}
use Rattle.des_fast.proofs.BlockRows.{AreWordsWritten-none, AreWordsWritten-more}
use Rattle.des_fast.proofs.PlacedBytes.{bits_of_lane-bytes}
use Rattle.des_fast.proofs.slices.vectors.U64x2Slice.write_row.Goals as goal

pub returns : goal.returns
returns c =
    let row : List ℕ = c.args.self.now in
    let n : ℕ = c.args.n in
    let old : List (List ℕ) = c.args.blocks.now in
    let upto_1 = AreWordsWritten-more bit_at_place 2 row n old _ 0 (2 * n) c.little_endian_block.result (get_or row 0 0)
    (omega arith) (omega arith) (omega arith) (bits_of_lane-bytes row 0) c.little_endian_block.ensures (AreWordsWritten-none bit_at_place 2 row n old) in
    let upto_2 = AreWordsWritten-more bit_at_place 2 row n old _ 1 (2 * n + 1) c.little_endian_block-2.result (get_or row 1 0)
    (omega arith) (omega arith) (omega arith) (bits_of_lane-bytes row 1) c.little_endian_block-2.ensures upto_1 in
    record {
      written = λ k within at. upto_2.0 k at (omega arith);
      kept = upto_2.1.0;
      count = upto_2.1.1;
    }
