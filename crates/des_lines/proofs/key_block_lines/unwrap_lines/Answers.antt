use Rattle.std.proofs.Common.{ℕ, List, ◌++◌, inr, sym, ap, ◌∙◌}
use Rattle.std.specs.Result.{result_err}
use Rattle.std.proofs.lemmas.Result.{IfOk-weaker, err_from_is_err_and}
use Rattle.des_lines.specs.KeyBlockLines.{check_lines}
use Rattle.des_lines.specs.Texts.{hex_line}
use Rattle.des_lines.proofs.UnwrapFaults.{key_block-readable, unwrap-refuses-memory}
use Rattle.des_lines.proofs.key_block_lines.unwrap_lines.Goals as goal

-- the key alone
pub returns-then-shows_key-clause-fault : goal.returns-then-shows_key-clause-fault
returns-then-shows_key-clause-fault c =
    let none = sym c.protection_of.ensures.fault ∙ ap result_err c.in_ok-protection.was in
    let holds = rw (c.bytes.ensures.value ∙ c.in_ok-protection.ensures.key) at c.in_ok-header.ensures.opened in
    rw none (inr (_, (_, (holds, c.hex_answer.ensures.fault))))

pub returns-then-shows_key-clause-lines : goal.returns-then-shows_key-clause-lines
returns-then-shows_key-clause-lines c =
    let holds = rw (c.bytes.ensures.value ∙ c.in_ok-protection.ensures.key) at c.in_ok-header.ensures.opened in
    let bytes = ap hex_line c.bytes-then-shows_key.ensures in
    rw c.if-shows_key.true
    (IfOk-weaker c.hex_answer.result _ _ (λ line is. (_, (_, (holds, is ∙ bytes)))) c.hex_answer.ensures.line)

-- memory is refused for the lines of the header
pub returns-in_err-lines-clause-fault : goal.returns-in_err-lines-clause-fault
returns-in_err-lines-clause-fault c =
    let p = err_from_is_err_and c.from_residual-in_err-lines.result c.from_residual-in_err-lines.ensures.1 in
    let none = sym c.protection_of.ensures.fault ∙ ap result_err c.in_ok-protection.was in
    let opened = c.in_ok-header.ensures.opened in
    let holds = rw (c.bytes.ensures.value ∙ c.in_ok-protection.ensures.key) at opened in
    let memory = c.in_err-lines.ensures.only _ _ (key_block-readable _ c.args.block.now _ _ opened) in
    unwrap-refuses-memory c.args.protection.now c.args.block.now _ _ none holds _ p.0 p.1 (p.2 ∙ memory)

-- memory is refused for the check value
pub returns-in_err-add_check_value-clause-fault : goal.returns-in_err-add_check_value-clause-fault
returns-in_err-add_check_value-clause-fault c =
    let p = err_from_is_err_and c.from_residual-in_err-add_check_value.result c.from_residual-in_err-add_check_value.ensures.1 in
    let none = sym c.protection_of.ensures.fault ∙ ap result_err c.in_ok-protection.was in
    let holds = rw (c.bytes.ensures.value ∙ c.in_ok-protection.ensures.key) at c.in_ok-header.ensures.opened in
    unwrap-refuses-memory c.args.protection.now c.args.block.now _ _ none holds _ p.0 p.1
    (p.2 ∙ c.in_err-add_check_value.ensures.fault)

pub returns-clause-lines : goal.returns-clause-lines
returns-clause-lines c =
    let holds = rw (c.bytes.ensures.value ∙ c.in_ok-protection.ensures.key) at c.in_ok-header.ensures.opened in
    let line = c.in_ok-add_check_value.ensures.line
    ∙ ap (λ (key : List ℕ). c.in_ok-lines.lines.items ++ check_lines c.in_ok-header.header.algorithm key) c.bytes-2.ensures in
    rw c.if-shows_key.false (_, (_, (holds, (c.in_ok-lines.lines.items, (c.in_ok-lines.ensures.lines, line)))))
