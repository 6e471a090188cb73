use Rattle.std.proofs.Common.{ℕ, ◌+◌, ◌≤◌, ◌<◌, Bool, true, false, List, [], ◌∷◌, ◌++◌, length, refl, sym, subst, Option, arith}
use Rattle.std.proofs.lemmas.List.Sums.{sum_by_more}
use Rattle.des_commands.specs.declared.lines.LinesJob.{LinesJob}
use Rattle.des_commands.specs.declared.lines.Tally.{Tally}
use Rattle.des_commands.specs.declared.lines.columns.LineColumn.{LineColumn}
use Rattle.des_commands.specs.LineAnswers.{Outcome}
use Rattle.des_commands.specs.LineColumns.{AreOutcomes, IsOutcomeAt}
use Rattle.des_commands.specs.LineRuns.{AddsAnswers}
use Rattle.des_commands.proofs.LineRuns.{AddsAnswers-append, AreOutcomes-more}
use Rattle.des_commands.proofs.lines.add_answers.Goals as goal

-- a line more
more : (job : LinesJob) (column : LineColumn) (goes_on : Bool) (at : ℕ) (outcomes : List Outcome) (outcome : Outcome)
    (l m n : Tally) (a b c : Option (List ℕ)) (x y z : List ℕ) → at < length column.kinds.items
    → AreOutcomes job.writes_digits column outcomes → AddsAnswers job true at outcomes l m a b x y
    → IsOutcomeAt job.writes_digits column at outcome → AddsAnswers job goes_on 1 (outcome ∷ []) m n b c y z
    → AreOutcomes job.writes_digits column (outcomes ++ outcome ∷ [])
    × AddsAnswers job goes_on (at + 1) (outcomes ++ outcome ∷ []) l n a c x z
more job column goes_on at outcomes outcome l m n a b c x y z below are adds is one = (
  AreOutcomes-more job.writes_digits column outcomes outcome are (omega (arith, adds.counted.0, below))
      (subst (λ (k : ℕ). IsOutcomeAt job.writes_digits column k outcome) (sym adds.counted.0) is),
  AddsAnswers-append job goes_on at 1 (at + 1) outcomes (outcome ∷ []) l m n a b c x y z adds one refl,
)

-- the run has ended, and lines may follow
ended : (job : LinesJob) (count all : ℕ) (outcomes : List Outcome) (l m : Tally) (a b : Option (List ℕ)) (x y : List ℕ)
    → count ≤ all → AddsAnswers job false count outcomes l m a b x y → AddsAnswers job false all outcomes l m a b x y
ended job count all outcomes l m a b x y within adds = record {
  answers = adds.answers;
  counted = (omega (arith, adds.counted.0, within), adds.counted.1, adds.counted.2);
  added = adds.added;
}

pub lines-preserved : goal.lines-preserved
lines-preserved g c =
    let lengths : List ℕ = c.args.column.now.lengths.items in
    let at : ℕ = c.lines.at in
    let before = c.lines.invariant.answered in
    let here = c.in_ok-answer_at.ensures.answered in
    let below : at < length c.args.column.now.kinds.items =
    omega (arith, c.lines-test.true, c.len-at-end.ensures, c.args.column.now.kinds.ok.0) in
    let inside : at < length lengths = omega (arith, below, c.requires.column.lengths) in
    let after = more _ c.args.column.now true at before.0 here.0 _ _ _ _ _ _ _ _ _ below before.1 before.2 here.1
    (rw c.if-not-branch.false at here.2) in
    record {
      from =
          omega (arith, c.lines.invariant.from, c.index.ensures, sum_by_more (λ (n : ℕ). n) lengths at c.index.result.now inside);
      answered = (before.0 ++ here.0 ∷ [], after.0, after.1);
    }

pub returns-then-not-branch-clause-answered : goal.returns-then-not-branch-clause-answered
returns-then-not-branch-clause-answered g c =
    let at : ℕ = c.lines.at in
    let before = c.lines.invariant.answered in
    let here = c.in_ok-answer_at.ensures.answered in
    let below : at < length c.args.column.now.kinds.items =
    omega (arith, c.lines-test.true, c.len-at-end.ensures, c.args.column.now.kinds.ok.0) in
    let after = more _ c.args.column.now false at before.0 here.0 _ _ _ _ _ _ _ _ _ below before.1 before.2 here.1
    (rw c.if-not-branch.true at here.2) in
    (before.0 ++ here.0 ∷ [], after.0, ended _ (at + 1) _ _ _ _ _ _ _ _ (omega (arith, below)) after.1)
