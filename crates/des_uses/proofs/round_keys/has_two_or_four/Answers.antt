use Rattle.std.proofs.Common.{rules}
use Rattle.des_uses.proofs.round_keys.has_two_or_four.Goals as goal

pub returns-clause-four : goal.returns-clause-four
returns-clause-four c listed not_two =
    let four = c.distinct_round_keys-count.ensures.four c.args.key.now c.new.ensures.made listed not_two in search rules
