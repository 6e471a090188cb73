use Rattle.std.proofs.Common.{refl, arith}
use Rattle.des_key_wraps.proofs.TkwSteps.{unwrapped-one}
use Rattle.des_key_wraps.proofs.tkw.unwrap.Goals as goal

pub returns-then-are_equal-clause-accepted : goal.returns-then-are_equal-clause-accepted
returns-then-are_equal-clause-accepted g c = λ other too wraps.
    let one = unwrapped-one c.transform_back.ensures.only too (omega (arith, c.requires.capacity)) c.copy_from_slice.ensures.after wraps in
    (refl, one.1)

pub returns-clause-accepted : goal.returns-clause-accepted
returns-clause-accepted g c = λ other too wraps.
    let one = unwrapped-one c.transform_back.ensures.only too (omega (arith, c.requires.capacity)) c.copy_from_slice.ensures.after wraps in
    cc (c.are_equal.ensures.1 one.0, c.if-are_equal.false)
