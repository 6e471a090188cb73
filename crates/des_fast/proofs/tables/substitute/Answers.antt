use Rattle.std.proofs.Common.{arith}
use Rattle.des_fast.specs.Groups.{bits_of_groups}
use Rattle.des_fast.proofs.CombinedEntries.{TABLES-combined, IsExpansionOf-entries}
use Rattle.des_fast.proofs.tables.substitute.Goals as goal

pub returns : goal.returns
returns c =
    let group = c.groups_of-group in
    let is = IsExpansionOf-entries (bits_of_groups c.args.word) group.result group.ensures.within (omega arith)
    group.ensures.groups in
    record { tables = TABLES-combined; expansion = is.is_expansion; substituted = is.has_half }
