use Rattle.des_lines.proofs.KeyVerdicts.{double-refused}
use Rattle.des_lines.proofs.keys.verdict_of.Goals as goal

-- a key of two parts is refused
pub returns-then-is_double_length-clause-good : goal.returns-then-is_double_length-clause-good
returns-then-is_double_length-clause-good c =
    let double = c.is_double_length.ensures.0 c.if-is_double_length.true in
    ((λ same. cc same), (λ sound. absurd (sound (double-refused c.args.key.now double))))

-- and so is one that the test refuses
pub returns-then-is_weak-clause-good : goal.returns-then-is_weak-clause-good
returns-then-is_weak-clause-good c =
    let refused = c.is_weak.ensures.0 c.if-is_weak.true in
    ((λ same. cc same), (λ sound. absurd (sound refused)))
