use Rattle.std.proofs.Common.{ap, ◌∙◌, arith}
use Rattle.des_fast.specs.Groups.{bits_of_groups}
use Rattle.des_fast.proofs.KeptRoundKeys.{round_keys_in-by_place}
use Rattle.des_fast.proofs.round_keys.to_words.Goals as goal

-- each word is the one of the round key at its place
pub returns : goal.returns
returns g c key made =
    let same =
    round_keys_in-by_place c.map.result c.args.cipher.now.schedule.round_keys (omega (arith, c.map.ensures.items.long))
    (λ i d e below. ap bits_of_groups (c.map.ensures.items.at i e d (omega arith)).2.met) in
    (made.0, same ∙ made.1)
