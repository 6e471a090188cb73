use Rattle.std.proofs.Common.{IsTrue, [], rules, arith}
use Rattle.std.proofs.lemmas.List.{take_more}
use Rattle.std.proofs.lemmas.List.Elements.{AllZip-push}
use Rattle.des.specs.Parity.{AgreeOutsideParity}
use Rattle.des_c.proofs.keys.agree_in_each.Goals as goal

pub loop-i-preserved : goal.loop-i-preserved
loop-i-preserved c =
    let parts = c.args.parts.now in
    let others = c.args.others.now in
    let agreed : IsTrue c.equal_but_parity.result = search rules in
    rw (take_more parts c.loop-i.i [] (omega arith), take_more others c.loop-i.i [] (omega arith))
    (AllZip-push AgreeOutsideParity _ _ _ _ c.loop-i.invariant (c.equal_but_parity.ensures.agree.0 agreed))
