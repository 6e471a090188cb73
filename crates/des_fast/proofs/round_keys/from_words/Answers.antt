use Rattle.std.proofs.Common.{◌≡◌, length, sym, ap, ◌∙◌, arith}
use Rattle.des.specs.Bits.{bits_of_bytes}
use Rattle.des_fast.specs.HalfBlocks.{round_keys_of}
use Rattle.des_fast.specs.KeptRoundKeys.{round_keys_in, words_of_part}
use Rattle.des.proofs.Graphs.{IsGraphOf-encryption, IsGraphOf-decryption}
use Rattle.des_fast.proofs.KeptRoundKeys.{round_keys_in-by_place}
use Rattle.des_fast.proofs.ScheduledHalves.{AreScheduled-schedule}
use Rattle.des_fast.proofs.round_keys.from_words.Goals as goal

-- each round key has the groups of the word at its place: they are those of the key that there is
pub invariant_of-result : goal.invariant_of-result
invariant_of-result g c =
    let whole = rw c.unwrap-words.ensures at c.as_array.ensures.cases in
    let long : length c.unwrap-words.result.now ≡ 16 = ap length whole.same ∙ whole.long in
    let same : round_keys_in (words_of_part c.args.number c.args.words.now) ≡ round_keys_of c.map.result =
    rw whole.same at
    (round_keys_in-by_place c.unwrap-words.result.now c.map.result (omega (arith, long, c.map.ensures.items.long))
    (λ i d e below. sym (c.map.ensures.items.at i d e (omega (arith, long))).2.met)) in
    record {
      scheduled =
          AreScheduled-schedule c.map.result (bits_of_bytes c.requires.made.0) (omega (arith, c.map.ensures.items.long))
          (sym same ∙ c.requires.made.1.1);
    }

-- and of any key whose round keys the words hold
pub returns : goal.returns
returns g c key kept =
    let whole = rw c.unwrap-words.ensures at c.as_array.ensures.cases in
    let long : length c.unwrap-words.result.now ≡ 16 = ap length whole.same ∙ whole.long in
    let same : round_keys_in (words_of_part c.args.number c.args.words.now) ≡ round_keys_of c.map.result =
    rw whole.same at
    (round_keys_in-by_place c.unwrap-words.result.now c.map.result (omega (arith, long, c.map.ensures.items.long))
    (λ i d e below. sym (c.map.ensures.items.at i d e (omega (arith, long))).2.met)) in
    ((kept.0, sym same ∙ kept.1), (IsGraphOf-encryption key kept.0, IsGraphOf-decryption key kept.0))
