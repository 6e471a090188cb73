use Rattle.des_fast.proofs.HalfPasses.{halves-next}
use Rattle.des_fast.proofs.tdes.ThreePassesSingleDesBlockTransform.process_halves.Goals as goal

pub returns-clause-output : goal.returns-clause-output
returns-clause-output g c b within block starts =
    let first = c.process_halves-left.ensures.output b within block starts in
    let second = c.process_halves-left-2.ensures.output b within _ (halves-next _ _ _ first) in
    c.process_halves.ensures.output b within _ (halves-next _ _ _ second)
