-- Bit by bit.
use Rattle.std.proofs.Common.{◌≡◌, ℕ, ◌+◌, ◌*◌, ◌/◌, get_or, length, sym, ap, ◌∙◌, arith}
use Rattle.std.proofs.lemmas.List.{length-set}
use Rattle.des.specs.Bits.{bit}
use Rattle.des_fast.specs.Slices.{bits_of_slice}
use Rattle.des_fast.specs.RoundKeySlices.{positions_twice}
use Rattle.des_fast.proofs.KeySlices.{position-at, bits_written_twice, place_once-below}
use Rattle.des_fast.proofs.slices.keys.spread_half.Goals as goal

pub bit_slice-slice-requires : goal.bit_slice-slice-requires
bit_slice-slice-requires g c =
    let is = position-at (28 * c.args.half + 7 * c.rows.row + c.bits.i) c.args.half (omega arith) (omega arith) in
    record { from_one = omega (arith, is.from); to_last = omega (arith, is.to) }

pub bits-preserved : goal.bits-preserved
bits-preserved g c =
    let half : ℕ = c.args.half in
    let n : ℕ = 28 * half + 7 * c.rows.row + c.bits.i in
    let place : ℕ = n + 28 * half in
    let in_half : n / 28 ≡ half = omega arith in
    let is = position-at n half (omega arith) in_half in
    let size : length c.bits.halves ≡ 112 = c.bits.invariant.0 in (
      length-set _ _ _ ∙ length-set c.bits.halves place _ ∙ size,
      λ b within m below done.
          let read = g.S.Slice.bit b in
          let whole = bits_of_slice c.args.words.now in
          bits_written_twice read (λ k bit_is. bit_is ≡ bit whole (get_or positions_twice k 0)) c.bits.halves place
          (place + 28) _ (omega (arith, size)) (omega (arith, size))
          (c.bit_slice-slice.ensures b within ∙ ap (bit whole) (sym is.first))
          (c.bit_slice-slice.ensures b within ∙ ap (bit whole) (sym is.second))
          m (λ not_first not_second.
          c.bits.invariant.1 b within m below (place_once-below m n half below in_half (omega arith) not_first not_second)),
    )
