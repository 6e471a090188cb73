use Rattle.std.proofs.Common.{sym, subst}
use Rattle.des_fast.specs.SpreadKeys.{AreSlicesFor}
use Rattle.des_fast.proofs.many.spread.SpreadKeys.encrypt_many.Goals as goal

pub returns-clause-encrypted : goal.returns-clause-encrypted
returns-clause-encrypted g c encrypted decrypted are =
    c.process.ensures.processed encrypted
    (subst (λ passes. AreSlicesFor g.S.Slice.BATCH g.S.Slice.bit passes encrypted) (sym c.passes.ensures) are.encryption)
