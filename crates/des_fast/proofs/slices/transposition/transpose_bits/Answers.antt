-- Byte by byte.
use Rattle.std.proofs.Common.{arith}
use Rattle.des_fast.specs.Transposition.{bits_of_halves}
use Rattle.des_fast.proofs.TransposedRows.{AreTransposedBelow-more}
use Rattle.des_fast.proofs.slices.transposition.transpose_bits.Goals as goal

pub bits-preserved : goal.bits-preserved
bits-preserved g c =
    AreTransposedBelow-more g.S.Slice.BATCH g.S.Slice.place_bit
    (λ b. bits_of_halves (g.S.Slice.place_bit b) c.args.left.now c.args.right.now)
    (λ b. bits_of_halves (g.S.Slice.place_bit b) c.bits.left c.bits.right)
    (λ b. bits_of_halves (g.S.Slice.place_bit b) c.write_eight.new.left c.write_eight.new.right)
    c.eight_rows.result c.exchange_bits-eight.result c.bits.i (omega (arith, g.met.S.Slice.whole_words)) (omega arith)
    c.eight_rows.ensures c.exchange_bits-eight.ensures c.write_eight.ensures.written c.write_eight.ensures.kept
    c.bits.invariant
