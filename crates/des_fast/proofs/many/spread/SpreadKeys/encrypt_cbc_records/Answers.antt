use Rattle.std.proofs.Common.{sym, subst}
use Rattle.des_fast.specs.SpreadKeys.{AreSlicesFor}
use Rattle.des_fast.proofs.many.spread.SpreadKeys.encrypt_cbc_records.Goals as goal

pub returns-clause-chained : goal.returns-clause-chained
returns-clause-chained g c encrypted decrypted are =
    c.cbc_encrypt.ensures.chained encrypted
    (subst (λ passes. AreSlicesFor g.S.Slice.BATCH g.S.Slice.bit passes encrypted) (sym c.passes.ensures) are.encryption)

pub returns-clause-goes_on : goal.returns-clause-goes_on
returns-clause-goes_on g c encrypted decrypted are =
    c.cbc_encrypt.ensures.goes_on encrypted
    (subst (λ passes. AreSlicesFor g.S.Slice.BATCH g.S.Slice.bit passes encrypted) (sym c.passes.ensures) are.encryption)
