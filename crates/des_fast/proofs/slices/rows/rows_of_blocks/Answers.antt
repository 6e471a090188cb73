-- Each block is in one of the eight rows.
use Rattle.std.proofs.Common.{◌≡◌, ℕ, ◌+◌, ◌*◌, ◌/◌, ◌%◌, arith}
use Rattle.des.specs.Bits.{bits_of_bytes}
use Rattle.des_fast.specs.Transposition.{block_at}
use Rattle.des_fast.proofs.BlockRows.{bits_of_row-listed, IsPlaced-block}
use Rattle.des_fast.proofs.slices.rows.rows_of_blocks.Goals as goal

pub returns : goal.returns
returns g c k within of =
    let n : ℕ = k / g.S.Slice.words in
    let i : ℕ = c.args.i in
    let at = IsPlaced-block g.S.Slice.BATCH g.S.Slice.words k g.met.S.Slice.some_blocks g.met.S.Slice.whole_words within in
    bits_of_row-listed g.S.Slice.place_bit (k % g.S.Slice.words) (bits_of_bytes (block_at c.args.blocks.now k))
    (λ j. n ≡ 8 * j + i) _ _ _ _ _ _ _ _
    (λ is. c.row_of.ensures k within (omega arith)) (λ is. c.row_of-2.ensures k within (omega arith))
    (λ is. c.row_of-3.ensures k within (omega arith)) (λ is. c.row_of-4.ensures k within (omega arith))
    (λ is. c.row_of-5.ensures k within (omega arith)) (λ is. c.row_of-6.ensures k within (omega arith))
    (λ is. c.row_of-7.ensures k within (omega arith)) (λ is. c.row_of-8.ensures k within (omega arith))
    (n / 8) (omega (arith, at.row)) (omega arith)
