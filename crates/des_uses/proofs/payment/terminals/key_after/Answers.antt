use Rattle.des_uses.proofs.payment.terminals.key_after.Goals as goal

pub others-init : goal.others-init
others-init c = c.new-terminal.ensures.keys

pub others-preserved : goal.others-preserved
others-preserved c = c.in_ok-next_key.ensures.keys c.args.initial.now c.others.invariant

pub returns : goal.returns
returns c = c.in_ok-key.ensures.key c.args.initial.now c.others.invariant
