use Rattle.std.proofs.Common.{ℕ, zero, suc, ◌<◌, slice_index, ap, ◌∙◌, arith}
use Rattle.des.specs.Bits.{select}
use Rattle.des.specs.Tables.{permutation}
use Rattle.des.specs.CipherFunction.{substitute}
use Rattle.des_fast.specs.Groups.{bits_of_groups}
use Rattle.des_fast.specs.JoinedEntries.{first_entries, second_entries}
use Rattle.des_fast.proofs.GroupWords.{IsOfGroups-lt}
use Rattle.des_fast.proofs.HalfExpansions.{IsExpansionOf}
use Rattle.des_fast.proofs.ChosenEntries.{IsExpansionOf-substitute}
use Rattle.des_fast.proofs.JoinedEntries.{first_entries-substitute, second_entries-substitute}
use Rattle.des_fast.proofs.no_tables.four_blocks.substitute.Goals as goal
use Rattle.des_fast.proofs.no_tables.four_blocks.substitute.Goals.{After-expanded}

-- the words that come out
expansion : (c : After-expanded) (b : ℕ) → b < 4
    → IsExpansionOf (slice_index c.expanded.result b)
    (select permutation (substitute (bits_of_groups (slice_index c.args.groups b))))
expansion c zero within =
    IsExpansionOf-substitute _ _ _ (IsOfGroups-lt _ (c.expanded.ensures.groups 0 within)) c.expanded.ensures.first
    (ap (select first_entries) c.joined-entries.ensures.first
    ∙ first_entries-substitute c.chosen.result 7 23 _ c.chosen.ensures.first)
expansion c (suc zero) within =
    IsExpansionOf-substitute _ _ _ (IsOfGroups-lt _ (c.expanded.ensures.groups 1 within)) c.expanded.ensures.second
    (ap (select first_entries) c.joined-entries.ensures.second
    ∙ first_entries-substitute c.chosen.result 15 31 _ c.chosen.ensures.second)
expansion c (suc (suc zero)) within =
    IsExpansionOf-substitute _ _ _ (IsOfGroups-lt _ (c.expanded.ensures.groups 2 within)) c.expanded.ensures.third
    (ap (select second_entries) c.joined-entries.ensures.first
    ∙ second_entries-substitute c.chosen.result 7 23 _ c.chosen.ensures.third)
expansion c (suc (suc (suc zero))) within =
    IsExpansionOf-substitute _ _ _ (IsOfGroups-lt _ (c.expanded.ensures.groups 3 within)) c.expanded.ensures.fourth
    (ap (select second_entries) c.joined-entries.ensures.second
    ∙ second_entries-substitute c.chosen.result 15 31 _ c.chosen.ensures.fourth)
expansion c (suc (suc (suc (suc b)))) within = absurd (omega arith)

pub returns-clause-expansion : goal.returns-clause-expansion
returns-clause-expansion c b within = (expansion c b within).is_expansion

pub returns-clause-substituted : goal.returns-clause-substituted
returns-clause-substituted c b within = (expansion c b within).has_half
