use Rattle.std.proofs.Common.{◌≡◌, ◌<◌, ℕ, List, arith}
use borrow.Author.Tests.{ltb-true}
use Rattle.des.specs.KeyHalves.{HalvesRepeat}
use Rattle.des_uses.proofs.round_keys.has_one_or_many.Goals as goal

-- halves of the listed class give one round key, two or four
pub returns-clause-unlisted : goal.returns-clause-unlisted
returns-clause-unlisted c many listed =
    let key : List ℕ = c.args.key.now in
    let made = c.new.ensures.made in
    let count : ℕ = c.distinct_round_keys-count.result in
    let says = c.distinct_round_keys-count.ensures in
    let above : 4 < count = ltb-true 4 count many in
    let not_one : HalvesRepeat 1 key → ⊥ = λ same. let one : count ≡ 1 = (says.one key made).1 same in omega arith in
    let not_two : HalvesRepeat 2 key → ⊥ =
    λ same. let two : count ≡ 2 = says.two key made same not_one in omega arith in
    let four : count ≡ 4 = says.four key made listed not_two in
    omega arith
