use Rattle.std.proofs.Common.{rules, ◌≡◌, Some}
use Rattle.std.proofs.lemmas.Result.{IfOk-weaker}
use Rattle.des_tool.specs.Request.{of_blocks, of_cbc, request_of, texts}
use Rattle.des_tool.proofs.OneText.{IsTheOne-IsAnswer}
use Rattle.des_tool.proofs.command.answers.answer.Goals as goal

-- the one text that answers the request which the arguments are
pub returns-in-Blocks-clause-answer : goal.returns-in-Blocks-clause-answer
returns-in-Blocks-clause-answer c =
    let arguments = texts c.args.arguments.now in
    let asked : request_of (texts c.args.arguments.now)
    ≡ Some (of_blocks c.in-Blocks.cipher c.in-Blocks.direction c.in-Blocks.key.now c.in-Blocks.blocks.now) =
    search rules in
    IfOk-weaker c.blocks_text.result _ _
    (λ text answers. IsTheOne-IsAnswer arguments text.items (rw asked answers)) c.blocks_text.ensures.answer

pub returns-in-Cbc-clause-answer : goal.returns-in-Cbc-clause-answer
returns-in-Cbc-clause-answer c =
    let arguments = texts c.args.arguments.now in
    let asked : request_of (texts c.args.arguments.now)
    ≡ Some (of_cbc c.in-Cbc.cipher c.in-Cbc.direction c.in-Cbc.key.now c.in-Cbc.vector.now
    c.in-Cbc.blocks.now) =
    search rules in
    IfOk-weaker c.cbc_text.result _ _
    (λ text answers. IsTheOne-IsAnswer arguments text.items (rw asked answers)) c.cbc_text.ensures.answer
