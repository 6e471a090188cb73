-- Row by row.
use Rattle.std.proofs.Common.{ℕ, ◌/◌, ◌%◌, ap, sym, ◌∙◌, arith, inl, inr}
use Rattle.std.proofs.lemmas.Bool.{cases_eq}
use Rattle.des.specs.Blocks.{block_of_bits}
use Rattle.des_fast.specs.Transposition.{bits_of_row}
use Rattle.des_fast.proofs.BlockRows.{bits_of_lane-row, IsPlaced-block}
use Rattle.des_fast.proofs.slices.rows.write_rows.Goals as goal

pub loop-j-preserved : goal.loop-j-preserved
loop-j-preserved g c =
    let bit = g.S.Slice.place_bit in
    let rows = c.args.rows.now in
    let j : ℕ = c.loop-j.j in (
      c.write_row.ensures.count ∙ c.loop-j.invariant.0,
      (
        λ k within of below.
            let n : ℕ = k / g.S.Slice.words in
            let lane : ℕ = k % g.S.Slice.words in
            elim (cases_eq (n / 8) j) [
              | inl same ↦
                  c.write_row.ensures.written k within (omega arith)
                  ∙ ap block_of_bits (bits_of_lane-row bit rows j lane _ (omega arith)
                  ∙ ap (λ (m : ℕ). bits_of_row bit rows m lane) (sym same))
              | inr other ↦
                  c.write_row.ensures.kept k (λ q. other (omega (arith, c.requires.within)))
                  ∙ c.loop-j.invariant.1.0 k within of (omega arith)
            ],
        λ k other.
            c.write_row.ensures.kept k (λ q. other (omega (arith, c.requires.within))) ∙ c.loop-j.invariant.1.1 k other,
      ),
    )

pub returns : goal.returns
returns g c = record {
  written = λ k within of.
      let at =
      IsPlaced-block g.S.Slice.BATCH g.S.Slice.words k g.met.S.Slice.some_blocks g.met.S.Slice.whole_words within in
      c.loop-j.invariant.1.0 k within of (omega (arith, at.row));
  kept = c.loop-j.invariant.1.1;
  count = omega (arith, c.requires.batch, c.loop-j.invariant.0);
}
