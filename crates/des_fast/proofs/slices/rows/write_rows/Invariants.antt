-- The blocks of the first rows are written.
use Rattle.std.proofs.Common.{◌≡◌, ◌≢◌, ℕ, ◌/◌, ◌%◌, ◌<◌, length}
use Rattle.des.specs.Blocks.{block_of_bits}
use Rattle.des_fast.specs.Transposition.{bits_of_row, block_at}
use Rattle.des_fast.proofs.slices.rows.write_rows.Given as goal

abbrev pub invariant-loop-j : goal.invariant-loop-j
invariant-loop-j g l =
    let row : ℕ → ℕ = λ k. k / g.S.Slice.words in
    (length l.blocks ≡ g.S.Slice.BATCH)
    × (((k : ℕ) → k < g.S.Slice.BATCH → row k % 8 ≡ l.i → row k / 8 < l.j
    → block_at l.blocks k ≡ block_of_bits (bits_of_row g.S.Slice.place_bit l.rows (row k / 8) (k % g.S.Slice.words)))
    × ((k : ℕ) → row k % 8 ≢ l.i → block_at l.blocks k ≡ block_at l.initial.blocks k))
