use Rattle.std.proofs.Common.{◌≡◌, ℕ, true, List, take, refl, arith}
use Rattle.std.proofs.KnownBytes.{Appends-nil}
use Rattle.std.proofs.lemmas.List.{take_all}
use Rattle.std.specs.List.{concat}
use Rattle.des_lines.proofs.Prefixes.{AppendsPrefix-written}
use Rattle.des_commands.proofs.LineEnds.{on_err, unanswered}
use Rattle.des_commands.proofs.LineKinds.{Consumes-lines}
use Rattle.des_commands.proofs.LinePieces.{opened_of, runs, sizes_sum, stops, whole}
use Rattle.des_commands.proofs.LineRuns.{GoesOn-itself}
use Rattle.des_commands.proofs.lines.run_piece.Goals as goal

pub open_column-requires : goal.open_column-requires
open_column-requires g c = sizes_sum _ _ _ _ _ c.in_ok-more.ensures.lines.2

pub add_answers-requires : goal.add_answers-requires
add_answers-requires g c = record {
  column = whole _ _ _ _ _ (opened_of _ _ _ _ _ c.in_ok-more.ensures.lines.2 c.in_ok-open_column.ensures);
}

pub returns-clause-runs : goal.returns-clause-runs
returns-clause-runs g c =
    let read = c.in_ok-more.ensures.lines in
    let answers = c.in_ok-goes_on.ensures.answered in
    let sent : List ℕ = c.as_slice.result.now in
    let written = c.in_ok-write_whole.ensures.written in
    let all : take written.0 sent ≡ sent = take_all written.0 sent (omega (arith, written.3 refl)) in
    record {
      goes_on = c.in_ok-goes_on.goes_on;
      more = c.in_ok-more.more;
      runs = runs _ _ read.0 answers.0 _ _ _ _ _ _ _ _ _ read.1 (opened_of _ _ _ _ _ read.2 c.in_ok-open_column.ensures) answers.1
          (rw c.clear.ensures.items at answers.2) (rw (all, c.as_slice.ensures.value) at written.2) read.3;
      is = refl;
    }

pub returns-in_err-more-clause-stopped : goal.returns-in_err-more-clause-stopped
returns-in_err-more-clause-stopped g c =
    let consumed = c.in_err-more.ensures.consumed in
    on_err _ (unanswered _ _ _ _ _ _ _ consumed.0 consumed.1)

pub returns-in_err-open_column-clause-stopped : goal.returns-in_err-open_column-clause-stopped
returns-in_err-open_column-clause-stopped g c =
    let read = c.in_ok-more.ensures.lines in
    on_err _ (unanswered _ _ _ _ _ _ _ (concat read.0) (Consumes-lines read.0 _ _ read.1))

pub returns-in_err-goes_on-clause-stopped : goal.returns-in_err-goes_on-clause-stopped
returns-in_err-goes_on-clause-stopped g c =
    let read = c.in_ok-more.ensures.lines in
    let told = c.in_err-goes_on.ensures.told in
    on_err _ (stops _ _ read.0 told.0 _ _ true _ _ _ read.1 (opened_of _ _ _ _ _ read.2 c.in_ok-open_column.ensures) told.1
    told.2 told.3 (0, Appends-nil _))

pub returns-in_err-write_whole-clause-stopped : goal.returns-in_err-write_whole-clause-stopped
returns-in_err-write_whole-clause-stopped g c =
    let read = c.in_ok-more.ensures.lines in
    let answers = c.in_ok-goes_on.ensures.answered in
    let written = AppendsPrefix-written _ _ _ _ (rw c.as_slice.ensures.value at c.write_whole.ensures.written) in
    let adds = rw c.clear.ensures.items at answers.2 in
    on_err _ (stops _ _ read.0 answers.0 _ _ _ _ _ _ read.1 (opened_of _ _ _ _ _ read.2 c.in_ok-open_column.ensures) answers.1
    (GoesOn-itself _ _ _ _ adds.counted) adds.answers.told (rw adds.added at written))
