use Rattle.std.proofs.Common.{ℕ, ap, ◌∙◌, rules, set, get_or}
use Rattle.std.proofs.lemmas.List.Edits.{map_over_more}
use Rattle.des_payment.specs.Components.{odd}
use Rattle.des_payment.proofs.components.set_odd_parity.Goals as goal

pub loop-byte-preserved : goal.loop-byte-preserved
loop-byte-preserved c =
    let i : ℕ = c.loop-byte.byte-index in
    let byte : ℕ = get_or c.loop-byte.key i 0 in
    ap (set c.loop-byte.key i) c.with_odd_parity.ensures
    ∙ map_over_more odd c.args.key.now c.loop-byte.key i byte (search rules) c.loop-byte.invariant (search rules)
