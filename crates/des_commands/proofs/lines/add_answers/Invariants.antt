use Rattle.std.proofs.Common.{◌≡◌, true, List}
use Rattle.des_commands.specs.LineAnswers.{Outcome}
use Rattle.des_commands.specs.LineColumns.{AreOutcomes, start_of}
use Rattle.des_commands.specs.LineRuns.{AddsAnswers}
use Rattle.des_commands.proofs.lines.add_answers.Given as goal

-- the lines so far are answered, and none has ended the run
abbrev pub invariant-lines : goal.invariant-lines
invariant-lines g l = record {
  from : l.from ≡ start_of l.column.lengths.items l.at;
  answered : (outcomes : List Outcome) × AreOutcomes l.job.writes_digits l.column outcomes
      × AddsAnswers l.job true l.at outcomes l.initial.tally l.tally (g.E.Write.contents l.initial.err)
      (g.E.Write.contents l.err) l.initial.out.items l.out.items;
}
