-- The blocks of every eighth row from each of the first rows on are written.
use Rattle.std.proofs.Common.{◌≡◌, ℕ, ◌/◌, ◌%◌, ◌<◌, length}
use Rattle.des.specs.Blocks.{block_of_bits}
use Rattle.des_fast.specs.Transposition.{bits_of_halves, block_at}
use Rattle.des_fast.proofs.TransposedRows.{bits_halfway}
use Rattle.des_fast.proofs.slices.rows.write_blocks.Given as goal

abbrev pub invariant-bytes : goal.invariant-bytes
invariant-bytes g l =
    (length l.blocks ≡ g.S.Slice.BATCH)
    × ((k : ℕ) → k < g.S.Slice.BATCH → k / g.S.Slice.words % 8 < l.i
    → block_at l.blocks k ≡ block_of_bits (bits_halfway (λ b. bits_of_halves (g.S.Slice.place_bit b) l.left l.right)
    (k / g.S.Slice.words) (k % g.S.Slice.words)))
