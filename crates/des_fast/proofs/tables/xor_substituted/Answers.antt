use Rattle.std.proofs.Common.{arith}
use Rattle.des_fast.proofs.CombinedEntries.{IsSubstitutedInto-row}
use Rattle.des_fast.proofs.tables.xor_substituted.Goals as goal

pub returns : goal.returns
returns c =
    let group = c.groups_of-group in
    IsSubstitutedInto-row c.args.left c.args.right group.result group.ensures.within (omega arith) group.ensures.groups
