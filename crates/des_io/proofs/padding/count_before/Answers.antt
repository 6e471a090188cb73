use Rattle.std.proofs.Common.{◌≡◌, ◌≢◌, ◌∙◌, Some, rules, arith, ap, sym, length, length-take-le, take}
use Rattle.des_io.specs.PaddedBytes.{padded, taken_off}
use Rattle.des_io.specs.declared.padding.Padding.{Padding}
use Rattle.des_io.specs.declared.padding.Padding.TheVariants.{Unpadded}
use Rattle.des_io.proofs.PaddedLists.{padded-injective, length-padded, take-padded, taken_off-twice}
use Rattle.des_io.proofs.padding.count_before.Goals as goal

-- what is taken off is that of what is taken off
taken_off-some : (padding taken : Padding) → taken ≡ taken_off padding → taken ≢ Unpadded → taken_off taken ≢ Unpadded
taken_off-some padding taken is differs same =
    differs (is ∙ sym (taken_off-twice padding) ∙ ap taken_off (sym is) ∙ same)

pub returns-then-eq-2-clause-back : goal.returns-then-eq-2-clause-back
returns-then-eq-2-clause-back c bytes same =
    let taken = taken_off c.args.padding in
    let equal : c.padded_prefix.result ≡ c.args.block.now = search rules in
    let prefix = take c.loop-count.count c.args.block.now in
    let made : padded taken prefix ≡ c.args.block.now =
    ap (λ padding. padded padding prefix) (sym c.taken_off-padding.ensures) ∙ sym c.padded_prefix.ensures ∙ equal in
    let is : prefix ≡ bytes = padded-injective c.args.padding prefix bytes (made ∙ sym same) in
    ap Some (sym (length-take-le c.loop-count.count c.args.block.now (omega arith)) ∙ ap length is)

pub returns-clause-back : goal.returns-clause-back
returns-clause-back c bytes same =
    let taken = c.taken_off-padding.result in
    let is : taken ≡ taken_off c.args.padding = c.taken_off-padding.ensures in
    let pads : taken_off taken ≢ Unpadded = taken_off-some c.args.padding taken is (search rules) in
    let made : padded taken bytes ≡ c.args.block.now = ap (λ padding. padded padding bytes) is ∙ same in
    let count = sym (length-padded taken bytes pads) ∙ ap length made ∙ c.told-block in
    let prefix : take (length bytes) c.args.block.now ≡ bytes =
    ap (take (length bytes)) (sym made) ∙ take-padded taken bytes in
    absurd (c.loop-count.invariant (length bytes) (omega (arith, count)) (ap (padded taken) prefix ∙ made))
