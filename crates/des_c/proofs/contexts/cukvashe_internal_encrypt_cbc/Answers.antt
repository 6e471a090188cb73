use Rattle.std.proofs.Common.{rules, w32}
use Rattle.std.proofs.lemmas.Int.{to_z-of_z}
use Rattle.des_c.proofs.contexts.cukvashe_internal_encrypt_cbc.Goals as goal

pub returns-clause-chained : goal.returns-clause-chained
returns-clause-chained c = rw (to_z-of_z w32 c.encrypt_cbc.result (search rules)) c.encrypt_cbc.ensures.chained
