use Rattle.std.proofs.Common.{Ok}
use Rattle.des_tool.specs.Request.{texts}
use Rattle.des_tool.proofs.Runs.{IsRun-from_IsShown}
use Rattle.des_tool.proofs.command.process.run_on.Goals as goal

pub returns : goal.returns
returns g c =
    rw c.from.ensures (IsRun-from_IsShown g.W.Write.contents g.E.Write.contents (Ok (texts c.args.arguments.now))
    c.answer.result _ _ _ _ _ c.answer.ensures.fault c.answer.ensures.answer c.show.ensures)
