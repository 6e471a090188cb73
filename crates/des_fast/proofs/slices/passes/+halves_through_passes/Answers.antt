-- The first pass, and then the others.
use Rattle.std.proofs.Common.{List, Bool, map, ap, sym, ◌∙◌}
use Rattle.std.proofs.lemmas.List.{length-map}
use Rattle.des.specs.Blocks.{block_of_bits}
use Rattle.des_fast.specs.Passes.{through_passes}
use Rattle.des_fast.specs.RoundKeySlices.{round_keys_in}
use Rattle.des_fast.specs.Transposition.{bits_of_halves}
use Rattle.des_fast.proofs.PassesOnSlices.{through_passes-halves}
use Rattle.des_fast.proofs.slices.passes.+halves_through_passes.Goals as goal

pub returns-in-Some : goal.returns-in-Some
returns-in-Some g t c = record {
  written = λ b within.
      let bit = g.S.Slice.bit b in
      let read = map bit in
      let keys = round_keys_in bit in
      let left : List Bool = read c.args.left.now in
      let right : List Bool = read c.args.right.now in
      c.halves_through_passes.ensures.written b within
      ∙ ap block_of_bits (sym (ap (λ passes. through_passes (map keys passes) (bits_of_halves bit c.args.left.now c.args.right.now))
      c.in-Some.ensures.cases.0
      ∙ through_passes-halves (keys c.in-Some.pass.now) (map keys c.in-Some.rest.now) left right
      (read c.sixteen_rounds.new.left) (read c.sixteen_rounds.new.right)
      (length-map c.args.left.now bit ∙ c.told-left) (length-map c.args.right.now bit ∙ c.told-right)
      (c.sixteen_rounds.ensures b within)));
  count = c.halves_through_passes.ensures.count;
}
