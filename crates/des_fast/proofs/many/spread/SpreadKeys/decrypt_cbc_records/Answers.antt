use Rattle.std.proofs.Common.{sym, subst}
use Rattle.des_fast.specs.SpreadKeys.{AreSlicesFor}
use Rattle.des_fast.proofs.many.spread.SpreadKeys.decrypt_cbc_records.Goals as goal

pub returns-clause-cbc_decrypted : goal.returns-clause-cbc_decrypted
returns-clause-cbc_decrypted g c encrypted decrypted are =
    c.cbc_decrypt.ensures.cbc_decrypted decrypted
    (subst (λ passes. AreSlicesFor g.S.Slice.BATCH g.S.Slice.bit passes decrypted) (sym c.passes.ensures) are.decryption)

pub returns-clause-goes_on : goal.returns-clause-goes_on
returns-clause-goes_on g c encrypted decrypted are =
    c.cbc_decrypt.ensures.goes_on decrypted
    (subst (λ passes. AreSlicesFor g.S.Slice.BATCH g.S.Slice.bit passes decrypted) (sym c.passes.ensures) are.decryption)
