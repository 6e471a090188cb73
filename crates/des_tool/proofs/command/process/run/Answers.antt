use Rattle.std.proofs.Common.{Err, refl}
use Rattle.des_tool.proofs.Runs.{IsRun-from_IsShown}
use Rattle.des_tool.proofs.command.process.run.Goals as goal

-- nothing was run on, and the writers are as they were
pub returns-in-Err : goal.returns-in-Err
returns-in-Err g c =
    let fault = c.in-Err.fault in
    let shown = rw (c.in-Err.ensures.out, c.in-Err.ensures.err) at c.show.ensures in
    rw c.from.ensures (
      Err fault,
      c.in-Err.ensures.fault,
      IsRun-from_IsShown g.W.Write.contents g.E.Write.contents (Err fault) (Err fault) _ _ _ _ _ refl tt shown,
    )
