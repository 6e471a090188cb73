use Rattle.des_key_wraps.proofs.Enclosed.{Encloses-weaker}
use Rattle.des_uses.proofs.key_wraps.cms_key_again.Goals as goal

pub returns-clause-wraps : goal.returns-clause-wraps
returns-clause-wraps g c =
    Encloses-weaker (λ x y takes.
    (g.met.C.Relating.encrypts_by_relation c.in_ok-cipher.cipher c.args.protection.now c.in_ok-cipher.ensures.made x y).1 takes)
    c.wrap.ensures
