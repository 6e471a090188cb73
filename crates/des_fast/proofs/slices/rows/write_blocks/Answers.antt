-- The bits, and then the bytes.
use Rattle.std.proofs.Common.{ℕ, ◌/◌, ◌%◌, ap, ◌∙◌, arith, inl, inr}
use Rattle.std.proofs.lemmas.Bool.{cases_eq}
use Rattle.des.specs.Blocks.{block_of_bits}
use Rattle.des_fast.specs.Transposition.{bits_of_halves}
use Rattle.des_fast.proofs.BlockRows.{IsPlaced-block}
use Rattle.des_fast.proofs.TransposedRows.{bits_halfway-written, bits_halfway-halves}
use Rattle.des_fast.proofs.slices.rows.write_blocks.Goals as goal

pub bytes-preserved : goal.bytes-preserved
bytes-preserved g c = (
  c.write_rows.ensures.count ∙ c.bytes.invariant.0,
  λ k within below.
      let batch : ℕ = g.S.Slice.BATCH in
      let words : ℕ = g.S.Slice.words in
      let whole = g.met.S.Slice.whole_words in
      let n : ℕ = k / words in
      let at = IsPlaced-block batch words k g.met.S.Slice.some_blocks whole within in
      elim (cases_eq (n % 8) c.bytes.i) [
        | inl same ↦
            c.write_rows.ensures.written k within same
            ∙ ap block_of_bits (bits_halfway-written batch words n (k % words) whole at.row at.lane
            g.S.Slice.place_bit (λ b. bits_of_halves (g.S.Slice.place_bit b) c.transpose_bits.new.left c.transpose_bits.new.right)
            c.every_eighth.result c.exchange_bytes-eight.result
            (λ b inside j under. rw same (c.every_eighth.ensures b inside j under))
            c.exchange_bytes-eight.ensures)
        | inr other ↦ c.write_rows.ensures.kept k other ∙ c.bytes.invariant.1 k within (omega arith)
      ],
)

pub returns : goal.returns
returns g c = record {
  written = λ k within.
      let batch : ℕ = g.S.Slice.BATCH in
      let words : ℕ = g.S.Slice.words in
      let whole = g.met.S.Slice.whole_words in
      let at = IsPlaced-block batch words k g.met.S.Slice.some_blocks whole within in
      c.bytes.invariant.1 k within (omega arith)
      ∙ ap block_of_bits (bits_halfway-halves batch words k g.S.Slice.bit g.S.Slice.place_bit c.args.left.now
      c.args.right.now g.met.S.Slice.placed whole at
      (λ b. bits_of_halves (g.S.Slice.place_bit b) c.transpose_bits.new.left c.transpose_bits.new.right) c.transpose_bits.ensures);
  count = omega (arith, c.requires, c.bytes.invariant.0);
}
