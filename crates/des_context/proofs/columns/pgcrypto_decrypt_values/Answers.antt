use Rattle.des_context.proofs.ReadStatuses.{some-refused}
use Rattle.des_context.proofs.columns.pgcrypto_decrypt_values.Goals as goal

pub returns-else-all-clause-status : goal.returns-else-all-clause-status
returns-else-all-clause-status g c _ = some-refused (c.fits.ensures.0 (cc)) (λ all. cc (c.decrypt_values-all.ensures.all.1 all))
