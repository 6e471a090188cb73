use Rattle.std.proofs.Common.{sym, subst}
use Rattle.des_fast.specs.SpreadKeys.{AreSlicesFor}
use Rattle.des_fast.proofs.many.spread.SpreadKeys.decrypt_many.Goals as goal

pub returns-clause-decrypted : goal.returns-clause-decrypted
returns-clause-decrypted g c encrypted decrypted are =
    c.process.ensures.processed decrypted
    (subst (λ passes. AreSlicesFor g.S.Slice.BATCH g.S.Slice.bit passes decrypted) (sym c.passes.ensures) are.decryption)
