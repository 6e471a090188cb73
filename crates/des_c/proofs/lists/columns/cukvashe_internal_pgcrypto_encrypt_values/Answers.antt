use Rattle.std.proofs.Common.{rules, w32}
use Rattle.std.proofs.lemmas.Int.{to_z-of_z}
use Rattle.des_c.proofs.lists.columns.cukvashe_internal_pgcrypto_encrypt_values.Goals as goal

pub returns-clause-status : goal.returns-clause-status
returns-clause-status c scheme is =
    rw (to_z-of_z w32 c.pgcrypto_encrypt_values.result (search rules)) (c.pgcrypto_encrypt_values.ensures.status scheme is)
