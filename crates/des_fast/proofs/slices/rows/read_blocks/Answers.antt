-- The bytes, and then the bits.
use Rattle.std.proofs.Common.{ℕ, ◌/◌, ◌%◌, List, Bool, ◌∙◌, arith, inl, inr}
use Rattle.std.proofs.lemmas.Bool.{cases_eq}
use Rattle.des_fast.specs.Transposition.{bits_of_halves}
use Rattle.des_fast.proofs.BlockRows.{IsPlaced-block}
use Rattle.des_fast.proofs.TransposedRows.{bits_halfway-read, bits_halfway-kept, bits_of_halves-halfway}
use Rattle.des_fast.proofs.slices.rows.read_blocks.Goals as goal

pub bytes-preserved : goal.bytes-preserved
bytes-preserved g c k within below =
    let batch : ℕ = g.S.Slice.BATCH in
    let words : ℕ = g.S.Slice.words in
    let whole = g.met.S.Slice.whole_words in
    let n : ℕ = k / words in
    let at = IsPlaced-block batch words k g.met.S.Slice.some_blocks whole within in
    let rows : ℕ → List Bool = λ b. bits_of_halves (g.S.Slice.place_bit b) c.bytes.left c.bytes.right in
    let next : ℕ → List Bool =
    λ b. bits_of_halves (g.S.Slice.place_bit b) c.write_every_eighth.new.left c.write_every_eighth.new.right in
    elim (cases_eq (n % 8) c.bytes.i) [
      | inl same ↦
          bits_halfway-read batch words n (k % words) whole at.row at.lane g.S.Slice.place_bit next
          c.rows_of_blocks.result c.exchange_bytes-eight.result c.exchange_bytes-eight.ensures
          (λ b inside j under. rw same (c.write_every_eighth.ensures.written b inside j under))
          ∙ c.rows_of_blocks.ensures k within same
      | inr other ↦
          bits_halfway-kept batch words n (k % words) whole at.row at.lane c.bytes.i rows next other
          c.write_every_eighth.ensures.kept
          ∙ c.bytes.invariant k within (omega arith)
    ]

pub returns : goal.returns
returns g c k within =
    let batch : ℕ = g.S.Slice.BATCH in
    let words : ℕ = g.S.Slice.words in
    let whole = g.met.S.Slice.whole_words in
    let at = IsPlaced-block batch words k g.met.S.Slice.some_blocks whole within in
    bits_of_halves-halfway batch words k g.S.Slice.bit g.S.Slice.place_bit c.transpose_bits.new.left
    c.transpose_bits.new.right g.met.S.Slice.placed whole at
    (λ b. bits_of_halves (g.S.Slice.place_bit b) c.bytes.left c.bytes.right) c.transpose_bits.ensures
    ∙ c.bytes.invariant k within (omega arith)
