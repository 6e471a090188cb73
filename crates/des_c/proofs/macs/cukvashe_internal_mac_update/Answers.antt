use Rattle.std.proofs.Common.{rules, w32}
use Rattle.std.proofs.lemmas.Int.{to_z-of_z}
use Rattle.des_c.proofs.macs.cukvashe_internal_mac_update.Goals as goal

pub returns-clause-added : goal.returns-clause-added
returns-clause-added c = rw (to_z-of_z w32 c.update.result (search rules)) c.update.ensures.added
