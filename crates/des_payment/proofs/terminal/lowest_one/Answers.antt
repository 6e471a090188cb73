use Rattle.std.proofs.Common.{arith}
use Rattle.des_payment.proofs.LowestOne.{lowest-one, lowest-below, lowest-inside}
use Rattle.des_payment.proofs.terminal.lowest_one.Goals as goal

pub returns-clause-inside : goal.returns-clause-inside
returns-clause-inside c = lowest-inside c.args.counter c.requires.some (omega arith) 21 c.requires.within

pub returns-clause-one : goal.returns-clause-one
returns-clause-one c = lowest-one c.args.counter c.requires.some (omega arith)

pub returns-clause-below : goal.returns-clause-below
returns-clause-below c = lowest-below c.args.counter c.requires.some (omega arith)
