use Rattle.std.proofs.Common.{◌≢◌, ◌+◌, ◌^◌, ◌/◌, ◌<◌, length, refl, ◌∙◌, arith, below_more, get_or-set_other, get_or-set_same}
use Rattle.std.specs.Int.Bits.{mask_lt}
use Rattle.std.proofs.lemmas.Nat.{shr_below}
use Rattle.std.proofs.lemmas.List.{length-set}
use Rattle.des.specs.Bits.{bits_of_word}
use Rattle.des.specs.KeySchedule.{c_half, d_half}
use Rattle.des.proofs.RoundKeys.{rotate-shifts_through_zero, rotate-more, length-c_half, length-d_half, c_half-in_word, d_half-in_word, round_key-in_word, HoldRoundKeys-by_index}
use Rattle.des.proofs.utils.gen_keys.Goals as goal

pub loop-i-init : goal.loop-i-init
loop-i-init c =
    let halves = c.pc1-halves.result in
    let key = bits_of_word c.args.key in
    record {
      c_within = shr_below halves 28 36 c.pc1-halves.type_inv;
      d_within = mask_lt (halves / 2 ^ 8) 28;
      c_rotated = rw rotate-shifts_through_zero (c_half-in_word halves key c.pc1-halves.ensures.selected);
      d_rotated = rw rotate-shifts_through_zero (d_half-in_word halves key c.pc1-halves.ensures.selected);
      sixteen = refl;
      made = λ k h. absurd (omega arith);
    }

pub loop-i-preserved : goal.loop-i-preserved
loop-i-preserved c =
    let key = bits_of_word c.args.key in
    let i = c.loop-i.i in
    let within = c.loop-i-test.true in
    let so_far = c.loop-i.invariant in
    let c_rotated =
    rotate-more i (c_half key) _ _ within (length-c_half key) so_far.c_rotated c.rotate-c.ensures.rotated in
    let d_rotated =
    rotate-more i (d_half key) _ _ within (length-d_half key) so_far.d_rotated c.rotate-d.ensures.rotated in
    let chosen =
    round_key-in_word (i + 1) _ _ key c.rotate-c.ensures.half c.rotate-d.ensures.half c_rotated d_rotated in
    record {
      c_within = c.rotate-c.ensures.half;
      d_within = c.rotate-d.ensures.half;
      c_rotated = c_rotated;
      d_rotated = d_rotated;
      sixteen = length-set c.loop-i.keys i c.pc2.result ∙ so_far.sixteen;
      made =
          below_more _ _
          (λ k h. let ne : k ≢ i = omega arith in rw get_or-set_other (so_far.made k h))
          (let lt : i < length c.loop-i.keys = omega arith in
          rw (get_or-set_same, c.pc2.ensures.selected, chosen));
    }

pub returns-clause-words : goal.returns-clause-words
returns-clause-words c =
    HoldRoundKeys-by_index c.loop-i.keys (bits_of_word c.args.key) c.loop-i.invariant.sixteen
    (λ k within. c.loop-i.invariant.made k (omega arith))
