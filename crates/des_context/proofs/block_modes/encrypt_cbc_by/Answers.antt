use Rattle.des.proofs.ChainedBlocks.{CbcUnder-weaker}
use Rattle.des_context.proofs.block_modes.encrypt_cbc_by.Goals as goal

pub returns-clause-chained : goal.returns-clause-chained
returns-clause-chained g c key context =
    let made = c.of.ensures key context in
    let by = g.met.C.ContextCipher.relates_by_length c.of.result key made in
    CbcUnder-weaker _ _ _ _ _ (λ x y. (by.relates x y).0) (c.encrypt_cbc_list.ensures.related key made)
