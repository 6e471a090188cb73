use Rattle.std.proofs.Common.{true}
use Rattle.des_commands.specs.LineRuns.{Runs, streams_of}
use Rattle.des_commands.proofs.lines.run.Given as goal

-- the lines so far are answered
abbrev pub invariant-pieces : goal.invariant-pieces
invariant-pieces g l =
    Runs (g.O.Opener.opens l.opener) l.job true true l.initial.tally l.tally
    (streams_of (g.R.Read.remaining l.initial.reader) (g.W.Write.contents l.initial.writer) (g.E.Write.contents l.initial.err))
    (streams_of (g.R.Read.remaining l.reader) (g.W.Write.contents l.writer) (g.E.Write.contents l.err))
