use Rattle.std.proofs.Common.{◌≡◌, ◌≢◌, ◌<◌, ℕ, List, Bool, length, sym, ap, ◌∙◌, arith, add-one, below_more, get_or-set_other, get_or-set_same}
use Rattle.std.proofs.lemmas.List.{length-set}
use Rattle.des.specs.Bits.{bits_of_word}
use Rattle.des.specs.KeySchedule.{round_key, key_schedule}
use Rattle.des.proofs.Traces.{half_block-key_schedule, length-key_schedule}
use Rattle.des_fast.specs.RoundKeyRows.{key_rows, transposed}
use Rattle.des_fast.proofs.KeyRows.{IsRoundKey-row}
use Rattle.des_fast.proofs.RoundKeysByPlace.{round_keys_of-by_index}
use Rattle.des_fast.proofs.ScheduledHalves.{AreScheduled-schedule}
use Rattle.des_fast.proofs.schedule.round_keys.Goals as goal

pub invariant_of-round_keys-in-loop-i : goal.invariant_of-round_keys-in-loop-i
invariant_of-round_keys-in-loop-i c =
    let words : c.transposed-words.result ≡ transposed (key_rows c.pc1.result) =
    c.transposed-words.ensures ∙ ap transposed c.key_rows.ensures in
    let is = IsRoundKey-row c.loop-i.i c.pc1.result c.transposed-words.result (bits_of_word c.args.key)
    c.loop-i-test.true c.pc1.type_inv c.pc1.ensures.selected words in
    record { of_groups = is.of_groups }

pub loop-i-preserved : goal.loop-i-preserved
loop-i-preserved c =
    let i : ℕ = c.loop-i.i in
    let within : i < 16 = c.loop-i-test.true in
    let words : c.transposed-words.result ≡ transposed (key_rows c.pc1.result) =
    c.transposed-words.ensures ∙ ap transposed c.key_rows.ensures in
    let is = IsRoundKey-row i c.pc1.result c.transposed-words.result (bits_of_word c.args.key) within c.pc1.type_inv
    c.pc1.ensures.selected words in
    record {
      sixteen = length-set c.loop-i.round_keys i _ ∙ c.loop-i.invariant.sixteen;
      made =
          below_more _ _
          (λ k h d. let ne : k ≢ i = omega arith in rw get_or-set_other (c.loop-i.invariant.made k h d))
          (λ d. let lt : i < length c.loop-i.round_keys = omega arith in rw get_or-set_same is.bits);
    }

pub returns-clause-made : goal.returns-clause-made
returns-clause-made c =
    let key : List Bool = bits_of_word c.args.key in
    round_keys_of-by_index c.loop-i.round_keys (key_schedule key)
    (c.loop-i.invariant.sixteen ∙ sym (length-key_schedule key))
    (λ i d below.
    let within : i < 16 = omega (arith, length-key_schedule key) in
    c.loop-i.invariant.made i (omega arith) d
    ∙ ap (round_key key) (add-one i)
    ∙ sym (half_block-key_schedule key i within))

pub returns-clause-scheduled : goal.returns-clause-scheduled
returns-clause-scheduled c =
    AreScheduled-schedule c.loop-i.round_keys (bits_of_word c.args.key) c.loop-i.invariant.sixteen
    (returns-clause-made c)
