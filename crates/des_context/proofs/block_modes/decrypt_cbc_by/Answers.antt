use Rattle.des.proofs.ChainedBlocks.{CbcUnder-weaker}
use Rattle.des_context.proofs.block_modes.decrypt_cbc_by.Goals as goal

pub returns : goal.returns
returns g c key context =
    let made = c.of.ensures key context in
    let by = g.met.C.ContextCipher.relates_by_length c.of.result key made in
    CbcUnder-weaker _ _ _ _ _ (λ x y. (by.relates x y).0) (c.decrypt_cbc_list_by.ensures.related key made)
