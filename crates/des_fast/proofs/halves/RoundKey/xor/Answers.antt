use Rattle.des_fast.proofs.GroupWords.{IsOfGroups-xor}
use Rattle.des_fast.proofs.halves.RoundKey.xor.Goals as goal

pub invariant_of-result : goal.invariant_of-result
invariant_of-result c =
    record {
      of_groups =
          IsOfGroups-xor c.args.self.groups c.args.other.groups c.args.self.of_groups c.args.other.of_groups;
    }
