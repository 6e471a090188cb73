-- Row by row.
use Rattle.std.proofs.Common.{ℕ, ◌++◌, List, Bool, false, map, sym, arith}
use Rattle.std.proofs.lemmas.List.{get_or-map}
use Rattle.des.specs.Tables.{final_permutation}
use Rattle.des.specs.Laws.Selections.{length-select}
use Rattle.des_fast.specs.Transposition.{bits_of_halves}
use Rattle.des_fast.proofs.EightRows.{AreWrittenAt-more, apart_place}
use Rattle.des_fast.proofs.slices.transposition.write_every_eighth.Goals as goal

pub loop-j-preserved : goal.loop-j-preserved
loop-j-preserved g c b within =
    let read = g.S.Slice.place_bit b in
    let i : ℕ = c.args.i in
    let j : ℕ = c.loop-j.j in
    let bits : List Bool = bits_of_halves read c.loop-j.left c.loop-j.right in
    AreWrittenAt-more (apart_place i) (map read c.args.eight) (bits_of_halves read c.args.left.now c.args.right.now) bits
    (bits_of_halves read c.write_row.new.left c.write_row.new.right) j _
    (omega arith) (omega (arith, c.requires, length-select final_permutation (map read c.loop-j.left ++ map read c.loop-j.right)))
    (λ k low q. absurd (omega arith)) (sym (get_or-map read c.args.eight j _ false (omega arith)))
    (c.write_row.ensures b within) (c.loop-j.invariant b within)

pub returns : goal.returns
returns g c = record {
  written = λ b within j below. (c.loop-j.invariant b within).0 j (omega arith);
  kept = λ b within m other. (c.loop-j.invariant b within).1 m (λ j below q. other (omega (arith, c.requires)));
}
