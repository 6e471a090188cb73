use Rattle.std.proofs.Common.{ℕ, ◌+◌, ◌-◌, ◌*◌, ◌%◌, ◌^◌, ◌<◌, ◌≤◌, ap, ◌∙◌, arith, rules}
use Rattle.des_payment.specs.Digits.{digit_in}
use Rattle.des_payment.proofs.FillPlaces.{fits, placed-front, placed-back, placed-small, placed-shift, filled-are}
use Rattle.des_payment.proofs.filling.filled.Goals as goal

pub overflow_add-front : goal.overflow_add-front
overflow_add-front c =
    let front : ℕ = c.first_of.result in
    let back : ℕ = c.first_of-2.result in
    let some : c.args.count ≤ 14 = omega (arith, c.requires.at_most) in
    let small = placed-small front back c.args.count 14 some c.first_of-2.ensures.small c.first_of.ensures.small in
    let whole : front * 2 ^ (4 * (14 - c.args.count)) + back < 2 ^ 60 = fits _ 14 (omega arith) small in
    let bound : front * 2 ^ (4 * (14 - c.args.count)) % 2 ^ 64 + back < 2 ^ 64 =
    rw (placed-shift front back c.args.count 14 some c.first_of-2.ensures.small (omega arith) c.first_of.ensures.small)
    (omega (arith, whole)) in
    search (rules, bound)

pub returns : goal.returns
returns c =
    let count : ℕ = c.args.count in
    let front : ℕ = c.first_of.result in
    let back : ℕ = c.first_of-2.result in
    let some : count ≤ 14 = omega (arith, c.requires.at_most) in
    let shift = placed-shift front back count 14 some c.first_of-2.ensures.small (omega arith) c.first_of.ensures.small in
    filled-are count c.args.values.now c.args.fill.now c.to_digits.result c.requires.at_least c.requires.at_most
    c.told-values c.told-fill c.to_digits.ensures.long c.requires.values c.requires.fill
    (λ k within.
    c.to_digits.ensures.digits k (omega (arith, some))
    ∙ ap (λ (n : ℕ). digit_in (n + back) 14 k) shift
    ∙ placed-front front back count 14 some c.first_of-2.ensures.small k within
    ∙ c.first_of.ensures.digits k within)
    (λ k from within.
    c.to_digits.ensures.digits k within
    ∙ ap (λ (n : ℕ). digit_in (n + back) 14 k) shift
    ∙ placed-back front back count 14 some c.first_of-2.ensures.small k from within
    ∙ c.first_of-2.ensures.digits (k - count) (omega arith))
