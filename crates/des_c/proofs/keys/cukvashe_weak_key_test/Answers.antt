use Rattle.std.proofs.Common.{refl}
use Rattle.des_c.proofs.keys.cukvashe_weak_key_test.Goals as goal

pub returns-in-Err-clause-passed : goal.returns-in-Err-clause-passed
returns-in-Err-clause-passed c =
    (λ same. absurd (cc same), λ passed. absurd (passed.1 (c.in-Err.ensures.refused.0 refl)))
