use Rattle.std.proofs.Common.{[], true}
use Rattle.std.proofs.KnownBytes.{Consumes-nil}
use Rattle.des_commands.proofs.LineEnds.{Runs-append, Runs-nothing, RunsOn-append, StopsAfter-append, going, on_err, unanswered}
use Rattle.des_commands.proofs.lines.run.Goals as goal

pub pieces-init : goal.pieces-init
pieces-init g c = Runs-nothing _ _ _ _

pub pieces-preserved : goal.pieces-preserved
pieces-preserved g c =
    Runs-append _ _ true true _ _ _ _ _ _ c.pieces.invariant
    (going _ _ _ _ _ _ (rw c.if-not-branch.false at c.in_ok-run_piece.ensures.runs))

pub returns-then-not-branch-clause-run : goal.returns-then-not-branch-clause-run
returns-then-not-branch-clause-run g c = record {
  tally = c.run_piece.new.tally;
  ended = RunsOn-append _ _ _ _ _ _ _ _ _ c.pieces.invariant (rw c.if-not-branch.true at c.in_ok-run_piece.ensures.runs);
  tells = c.status_of.ensures;
}

pub returns-in_err-run_piece-clause-stopped : goal.returns-in_err-run_piece-clause-stopped
returns-in_err-run_piece-clause-stopped g c =
    on_err _ (StopsAfter-append _ _ _ _ _ _ _ c.pieces.invariant c.in_err-run_piece.ensures.stopped)

pub returns-clause-stopped : goal.returns-clause-stopped
returns-clause-stopped g c =
    StopsAfter-append _ _ _ _ _ _ _ c.pieces.invariant (unanswered _ _ _ _ _ _ _ [] (Consumes-nil _))
