use Rattle.std.proofs.Common.{zero, suc, arith}
use Rattle.des_fast.proofs.ExpandedEntries.{expanded-earlier, expanded-later, earlier, later, IsOfGroups-expanded}
use Rattle.des_fast.proofs.no_tables.four_blocks.expanded.Goals as goal

pub returns-clause-groups : goal.returns-clause-groups
returns-clause-groups c zero within = IsOfGroups-expanded earlier c.args.first
returns-clause-groups c (suc zero) within = IsOfGroups-expanded earlier c.args.second
returns-clause-groups c (suc (suc zero)) within = IsOfGroups-expanded later c.args.first
returns-clause-groups c (suc (suc (suc zero))) within = IsOfGroups-expanded later c.args.second
returns-clause-groups c (suc (suc (suc (suc b)))) within = absurd (omega arith)

pub returns-clause-first : goal.returns-clause-first
returns-clause-first c = expanded-earlier c.args.first (omega arith)

pub returns-clause-second : goal.returns-clause-second
returns-clause-second c = expanded-earlier c.args.second (omega arith)

pub returns-clause-third : goal.returns-clause-third
returns-clause-third c = expanded-later c.args.first (omega arith)

pub returns-clause-fourth : goal.returns-clause-fourth
returns-clause-fourth c = expanded-later c.args.second (omega arith)
