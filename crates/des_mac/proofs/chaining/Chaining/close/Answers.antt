use Rattle.std.proofs.Common.{◌∙◌, ◌++◌}
use Rattle.des_mac.proofs.Absorbing.{cbc_mac-pending}
use Rattle.des_mac.proofs.chaining.Chaining.close.Goals as goal

pub returns-clause-tag : goal.returns-clause-tag
returns-clause-tag g c = λ key m holds whole.
    let after = c.update.ensures.holds key m holds in
    c.chain_block.ensures key after.is_key after.made
    ∙ cbc_mac-pending (g.C.KeyedCipher.encryption key) _ _ _ (m ++ c.args.padding.now) whole after.absorbed
