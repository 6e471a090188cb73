use Rattle.std.proofs.Common.{◌≡◌, rules, codes}
use Rattle.des_tool.specs.Fault.{name_of}
use Rattle.des_tool.proofs.Prefixes.{AppendsPrefix-first, AppendsPrefix-second}
use Rattle.des_tool.proofs.command.status.report.Goals as goal

-- a part of the name
pub returns-in_err-write_whole-clause-part : goal.returns-in_err-write_whole-clause-part
returns-in_err-write_whole-clause-part g c =
    let name : c.as_bytes.result.now ≡ name_of c.args.fault = search rules in
    AppendsPrefix-first _ _ (name_of c.args.fault) (codes "\n") (rw name at c.write_whole.ensures.part)

-- the name, and a part of the newline
pub returns-clause-part : goal.returns-clause-part
returns-clause-part g c =
    let name : c.as_bytes.result.now ≡ name_of c.args.fault = search rules in
    AppendsPrefix-second _ _ _ (name_of c.args.fault) (codes "\n") (rw name at c.in_ok-write_whole.ensures.whole)
    c.write_whole-2.ensures.part
