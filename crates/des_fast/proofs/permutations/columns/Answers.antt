use Rattle.std.proofs.Common.{zero, suc, ◌∙◌, arith}
use Rattle.des_fast.proofs.Columns.{first-doubled}
use Rattle.des_fast.proofs.permutations.columns.Goals as goal

pub returns-clause-bits : goal.returns-clause-bits
returns-clause-bits c zero i below within = c.column.ensures.bits i within
returns-clause-bits c (suc zero) i below within =
    c.column-2.ensures.bits i within ∙ first-doubled 1 i c.args.bytes below
returns-clause-bits c (suc (suc zero)) i below within =
    c.column-3.ensures.bits i within ∙ first-doubled 2 i c.args.bytes below
returns-clause-bits c (suc (suc (suc zero))) i below within =
    c.column-4.ensures.bits i within ∙ first-doubled 3 i c.args.bytes below
returns-clause-bits c (suc (suc (suc (suc zero)))) i below within =
    c.column-5.ensures.bits i within ∙ first-doubled 4 i c.args.bytes below
returns-clause-bits c (suc (suc (suc (suc (suc zero))))) i below within =
    c.column-6.ensures.bits i within ∙ first-doubled 5 i c.args.bytes below
returns-clause-bits c (suc (suc (suc (suc (suc (suc zero)))))) i below within =
    c.column-7.ensures.bits i within ∙ first-doubled 6 i c.args.bytes below
returns-clause-bits c (suc (suc (suc (suc (suc (suc (suc zero))))))) i below within =
    c.column-8.ensures.bits i within ∙ first-doubled 7 i c.args.bytes below
returns-clause-bits c (suc (suc (suc (suc (suc (suc (suc (suc k)))))))) i below within = absurd (omega arith)
