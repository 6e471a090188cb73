use Rattle.std.proofs.Common.{ℕ, ◌+◌, ◌*◌, ◌%◌, ◌^◌, ◌<◌, get_or, refl, arith, rules}
use Rattle.des_payment.proofs.FillPlaces.{digits-more, within-more, fits}
use Rattle.des_payment.proofs.filling.number_of.Goals as goal

pub overflow_mul-number : goal.overflow_mul-number
overflow_mul-number c =
    let m : ℕ = c.loop-digit.digit-index in
    let few : m < 16 = omega (arith, c.requires, c.loop-digit-test.true) in
    let bound : 16 * c.loop-digit.number < 2 ^ 64 =
    omega (arith, fits c.loop-digit.number m few c.loop-digit.invariant.small) in
    search (rules, bound)

pub overflow_add-number : goal.overflow_add-number
overflow_add-number c =
    let m : ℕ = c.loop-digit.digit-index in
    let digit : ℕ = get_or c.args.digits.now m 0 in
    let few : m < 16 = omega (arith, c.requires, c.loop-digit-test.true) in
    let small : digit % 16 < 16 = omega arith in
    let bound : 16 * c.loop-digit.number + digit % 16 < 2 ^ 64 =
    omega (arith, fits c.loop-digit.number m few c.loop-digit.invariant.small, small) in
    search (rules, bound)

pub loop-digit-preserved : goal.loop-digit-preserved
loop-digit-preserved c =
    let m : ℕ = c.loop-digit.digit-index in
    let digit : ℕ = get_or c.args.digits.now m 0 % 16 in
    let small : digit < 16 = omega arith in
    record {
      few = omega (arith, c.loop-digit-test.true);
      small = within-more c.loop-digit.number digit m small c.loop-digit.invariant.small;
      digits = digits-more c.args.digits.now c.loop-digit.number digit m small refl c.loop-digit.invariant.digits;
    }
