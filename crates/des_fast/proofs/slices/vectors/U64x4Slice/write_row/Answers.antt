-- A block of each of four words.
use Rattle.std.proofs.Common.{ℕ, ◌+◌, ◌*◌, List, get_or, arith}
use Rattle.des_fast.specs.Slices.{bit_at_place}
use Rattle.des_fast.proofs.BlockRows.{AreWordsWritten-none, AreWordsWritten-more}
use Rattle.des_fast.proofs.PlacedBytes.{bits_of_lane-bytes}
use Rattle.des_fast.proofs.slices.vectors.U64x4Slice.write_row.Goals as goal

pub returns : goal.returns
returns c =
    let row : List ℕ = c.args.self.now in
    let n : ℕ = c.args.n in
    let old : List (List ℕ) = c.args.blocks.now in
    let upto_1 = AreWordsWritten-more bit_at_place 4 row n old _ 0 (4 * n) c.little_endian_block.result (get_or row 0 0)
    (omega arith) (omega arith) (omega arith) (bits_of_lane-bytes row 0) c.little_endian_block.ensures (AreWordsWritten-none bit_at_place 4 row n old) in
    let upto_2 = AreWordsWritten-more bit_at_place 4 row n old _ 1 (4 * n + 1) c.little_endian_block-2.result (get_or row 1 0)
    (omega arith) (omega arith) (omega arith) (bits_of_lane-bytes row 1) c.little_endian_block-2.ensures upto_1 in
    let upto_3 = AreWordsWritten-more bit_at_place 4 row n old _ 2 (4 * n + 2) c.little_endian_block-3.result (get_or row 2 0)
    (omega arith) (omega arith) (omega arith) (bits_of_lane-bytes row 2) c.little_endian_block-3.ensures upto_2 in
    let upto_4 = AreWordsWritten-more bit_at_place 4 row n old _ 3 (4 * n + 3) c.little_endian_block-4.result (get_or row 3 0)
    (omega arith) (omega arith) (omega arith) (bits_of_lane-bytes row 3) c.little_endian_block-4.ensures upto_3 in
    record {
      written = λ k within at. upto_4.0 k at (omega arith);
      kept = upto_4.1.0;
      count = upto_4.1.1;
    }
