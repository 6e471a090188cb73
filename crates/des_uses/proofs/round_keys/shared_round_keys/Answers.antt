use Rattle.std.proofs.Common.{List, ◌++◌, Bool, map, ap, ◌∙◌}
use Rattle.des.specs.Bits.{zeros}
use Rattle.des_uses.proofs.round_keys.shared_round_keys.Goals as goal

pub returns-clause-first : goal.returns-clause-first
returns-clause-first c = c.round_keys.ensures.of_key c.args.first.now c.new.ensures.made

-- the two keys have one key schedule
pub returns-clause-second : goal.returns-clause-second
returns-clause-second c =
    let padded : List Bool → List Bool = λ round_key. round_key ++ zeros 16 in
    c.round_keys.ensures.of_key c.args.first.now c.new.ensures.made
    ∙ ap (map padded) (c.equal_but_parity.ensures.same_round_keys.0 c.if-not-equal_but_parity.false)
