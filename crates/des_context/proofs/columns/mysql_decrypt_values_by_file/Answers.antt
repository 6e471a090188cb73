use Rattle.des_context.proofs.ReadStatuses.{some-refused}
use Rattle.des_context.proofs.columns.mysql_decrypt_values_by_file.Goals as goal

pub returns-else-all-clause-status : goal.returns-else-all-clause-status
returns-else-all-clause-status g c = some-refused (c.fits.ensures.0 (cc)) (λ all. cc (c.decrypt_values_by_file-all.ensures.all.1 all))
