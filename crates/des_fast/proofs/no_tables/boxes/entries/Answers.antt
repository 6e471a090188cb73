use Rattle.std.proofs.Common.{suc, arith}
use Rattle.des_fast.proofs.GroupBytes.{digits-to_be}
use Rattle.des_fast.proofs.ChosenEntries.{choice-at}
use Rattle.des_fast.proofs.no_tables.boxes.entries.Goals as goal

pub returns-clause-entries : goal.returns-clause-entries
returns-clause-entries c (suc (suc (suc (suc (suc (suc (suc (suc i)))))))) below = absurd (omega arith)
returns-clause-entries c i below =
    choice-at c.args.word _ i c.requires below (digits-to_be c.args.word i below)
