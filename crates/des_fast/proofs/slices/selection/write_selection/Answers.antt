-- Slice by slice.
use Rattle.std.proofs.Common.{◌≡◌, ◌++◌, ℕ, ◌-◌, ◌<◌, ◌&&◌, IsTrue, true, false, List, Bool, length, nat_lt, map, get_or, ap, sym, ◌∙◌, arith}
use Rattle.std.specs.List.{list_all}
use Rattle.std.proofs.lemmas.Bool.{and_parts, ltb-true}
use Rattle.std.proofs.lemmas.List.{length-set, length-map, get_or-map, get_or_append_left, get_or-append_right}
use Rattle.std.proofs.lemmas.List.Elements.{All-get_or}
use Rattle.std.proofs.lemmas.List.Sums.{AllPass-from_list_all}
use Rattle.des.specs.Bits.{bit}
use Rattle.des_fast.proofs.WrittenElements.{bits_written_below}
use Rattle.des_fast.proofs.KeySlices.{bits-selection}
use Rattle.des_fast.proofs.slices.selection.write_selection.Goals as goal
use Rattle.des_fast.proofs.slices.selection.write_selection.Goals.{then-place-lt32, else-place-lt32}

-- a position is one of 64, from 1
place_of : (positions : List ℕ) (i : ℕ) → i < length positions
    → IsTrue (list_all (λ p. nat_lt 0 p && nat_lt p 65) positions)
    → (0 < get_or positions i 0) × (get_or positions i 0 < 65)
place_of positions i inside each =
    let position : ℕ = get_or positions i 0 in
    let tested : (nat_lt 0 position && nat_lt position 65) ≡ true =
    All-get_or (λ p. (nat_lt 0 p && nat_lt p 65) ≡ true) positions i 0 inside
    (AllPass-from_list_all (λ p. nat_lt 0 p && nat_lt p 65) positions each) in
    let parts = and_parts (nat_lt 0 position) (nat_lt position 65) tested in
    (ltb-true _ _ parts.0, ltb-true _ _ parts.1)

pub loop-i-preserved : goal.loop-i-preserved
loop-i-preserved g c =
    let i : ℕ = c.loop-i.i in
    let position : ℕ = get_or c.args.positions.now i 0 in
    let at = place_of c.args.positions.now i (omega arith) c.requires in
    let from : 0 < position = at.0 in
    let to : position < 65 = at.1 in (
      length-set c.loop-i.selected i _ ∙ c.loop-i.invariant.0,
      λ j below b within.
          let read = g.S.Slice.bit b in
          let left : List Bool = map read c.args.left.now in
          let right : List Bool = map read c.args.right.now in
          let width : length left ≡ 32 = length-map c.args.left.now read ∙ c.told-left in
          bits_written_below read (λ k bit_is. bit_is ≡ bit (left ++ right) (get_or c.args.positions.now k 0))
          c.loop-i.selected i c.if-place-lt32.selected (omega (arith, c.loop-i.invariant.0))
          (λ k lower. c.loop-i.invariant.1 k lower b within)
          (elim c.if-place-lt32.branch [
            | then-place-lt32 w ↦
                ap read w.selected-is
                ∙ sym (get_or_append_left left right false (position - 1) (omega (arith, w.if-place-lt32))
                ∙ get_or-map read c.args.left.now (position - 1) _ false (omega (arith, w.if-place-lt32, c.told-left)))
            | else-place-lt32 w ↦
                ap read w.selected-is
                ∙ sym (get_or-append_right left right 32 (position - 1) false width (omega (arith, w.if-place-lt32))
                ∙ get_or-map read c.args.right.now (position - 1 - 32) _ false (omega (arith, c.told-right)))
          ])
          j below,
    )

pub returns : goal.returns
returns g c b within =
    let read = g.S.Slice.bit b in
    bits-selection (map read c.loop-i.selected) (map read c.args.left.now ++ map read c.args.right.now) c.args.positions.now
    (length-map c.loop-i.selected read ∙ c.loop-i.invariant.0)
    (λ i below. c.loop-i.invariant.1 i (omega arith) b within)
