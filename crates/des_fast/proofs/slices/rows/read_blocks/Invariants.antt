-- The bytes of every eighth row from each of the first rows on are transposed.
use Rattle.std.proofs.Common.{◌≡◌, ℕ, ◌/◌, ◌%◌, ◌<◌}
use Rattle.des.specs.Bits.{bits_of_bytes}
use Rattle.des_fast.specs.Transposition.{bits_of_halves, block_at}
use Rattle.des_fast.proofs.TransposedRows.{bits_halfway}
use Rattle.des_fast.proofs.slices.rows.read_blocks.Given as goal

abbrev pub invariant-bytes : goal.invariant-bytes
invariant-bytes g l =
    (k : ℕ) → k < g.S.Slice.BATCH → k / g.S.Slice.words % 8 < l.i
    → bits_halfway (λ b. bits_of_halves (g.S.Slice.place_bit b) l.left l.right) (k / g.S.Slice.words) (k % g.S.Slice.words)
    ≡ bits_of_bytes (block_at l.blocks k)
