use Rattle.std.proofs.Common.{◌↔◌, subst}
use Rattle.std.specs.Prelude.{IsTrue}
use Rattle.des.specs.Parity.{ContainsAgreeing}
use Rattle.des_uses.proofs.verdicts.verdicts.Goals as goal

-- the list of the code is that of the definition
pub returns-clause-listed : goal.returns-clause-listed
returns-clause-listed c =
    subst (λ keys. IsTrue c.contains_agreeing.result ↔ ContainsAgreeing keys c.args.key.now)
    c.weak_key_test.ensures.listed c.contains_agreeing.ensures
