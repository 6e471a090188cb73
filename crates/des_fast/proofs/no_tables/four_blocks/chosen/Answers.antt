use Rattle.std.proofs.Common.{ℕ, ◌-◌, ◌^◌, ◌<◌, List, [], ◌∷◌, lit≤, arith}
use Rattle.std.specs.Simd.Lanes.{digits_l, number_l, Each1}
use Rattle.des_fast.specs.declared.no_tables.four_blocks.TheConstants.{TERMS}
use Rattle.des_fast.specs.ChosenTerms.{AreChoices}
use Rattle.des_fast.proofs.ChosenTerms.{choice-at}
use Rattle.des_fast.proofs.no_tables.four_blocks.chosen.Goals as goal
use Rattle.des_fast.proofs.no_tables.four_blocks.chosen.Goals.{After-in_half}

-- the words side by side
abbrev words : After-in_half → List ℕ
words c = c.args.first ∷ c.args.second ∷ c.args.third ∷ c.args.fourth ∷ []

fit : (c : After-in_half) → Each1 (λ x. x < 2 ^ 64) (words c)
fit c = (omega arith, (omega arith, (omega arith, (omega arith, tt))))

-- what their bytes choose
choices : (c : After-in_half) → AreChoices TERMS (digits_l 256 32 (number_l (2 ^ 64) (words c))) c.in_half.result
choices c =
    let bytes : List ℕ = digits_l 256 32 (number_l (2 ^ 64) (words c)) in
    c.in_half.ensures bytes
    (c.sum.ensures 4 0 bytes
    (c.sum_of_sixteen-with_last.ensures bytes c.mask-sixth.ensures c.mask-fifth.ensures c.mask-fourth.ensures
    c.mask-third.ensures) c.mask-second.ensures
    (c.sum_of_sixteen-with_first.ensures bytes c.mask-sixth.ensures c.mask-fifth.ensures c.mask-fourth.ensures
    c.mask-third.ensures)) c.mask-first.ensures

pub returns-clause-first : goal.returns-clause-first
returns-clause-first c i below =
    choice-at (words c) c.in_half.result 0 i (7 - i) (fit c) (lit≤ tt) below (omega arith) c.requires.first (choices c)

pub returns-clause-second : goal.returns-clause-second
returns-clause-second c i below =
    choice-at (words c) c.in_half.result 1 i (15 - i) (fit c) (lit≤ tt) below (omega arith) c.requires.second (choices c)

pub returns-clause-third : goal.returns-clause-third
returns-clause-third c i below =
    choice-at (words c) c.in_half.result 2 i (23 - i) (fit c) (lit≤ tt) below (omega arith) c.requires.third (choices c)

pub returns-clause-fourth : goal.returns-clause-fourth
returns-clause-fourth c i below =
    choice-at (words c) c.in_half.result 3 i (31 - i) (fit c) (lit≤ tt) below (omega arith) c.requires.fourth (choices c)
