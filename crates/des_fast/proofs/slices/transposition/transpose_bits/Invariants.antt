-- The first bytes are transposed.
use Rattle.des_fast.specs.Transposition.{bits_of_halves}
use Rattle.des_fast.proofs.TransposedRows.{AreTransposedBelow}
use Rattle.des_fast.proofs.slices.transposition.transpose_bits.Given as goal

abbrev pub invariant-bits : goal.invariant-bits
invariant-bits g l =
    AreTransposedBelow g.S.Slice.BATCH
    (λ b. bits_of_halves (g.S.Slice.place_bit b) l.initial.left l.initial.right)
    (λ b. bits_of_halves (g.S.Slice.place_bit b) l.left l.right) l.i
