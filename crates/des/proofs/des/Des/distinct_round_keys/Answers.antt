use Rattle.std.proofs.Common.{◌∙◌}
use Rattle.des.specs.Bits.{bits_of_bytes}
use Rattle.des.proofs.RoundKeyCounts.{one_round_key, two_round_keys, four_round_keys, four_round_keys-le}
use Rattle.des.proofs.des.Des.distinct_round_keys.Goals as goal

pub returns-clause-one : goal.returns-clause-one
returns-clause-one c key made =
    rw c.count_distinct.ensures.count
    (one_round_key c.args.self.now.round_keys (bits_of_bytes key) c.count_distinct.ensures.are_words made.1)

pub returns-clause-two : goal.returns-clause-two
returns-clause-two c key made by_two not_by_one =
    c.count_distinct.ensures.count
    ∙ two_round_keys c.args.self.now.round_keys (bits_of_bytes key) c.count_distinct.ensures.are_words made.1 by_two.0
    by_two.1 not_by_one

pub returns-clause-four : goal.returns-clause-four
returns-clause-four c key made listed not_by_two =
    c.count_distinct.ensures.count
    ∙ four_round_keys c.args.self.now.round_keys (bits_of_bytes key) c.count_distinct.ensures.are_words made.1 listed.0
    listed.1 not_by_two

pub returns-clause-at_most_four : goal.returns-clause-at_most_four
returns-clause-at_most_four c key made by_four =
    rw c.count_distinct.ensures.count
    (four_round_keys-le c.args.self.now.round_keys (bits_of_bytes key) c.count_distinct.ensures.are_words made.1
    by_four.0 by_four.1)
