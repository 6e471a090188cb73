use Rattle.std.proofs.Common.{◌≡◌, None, sym, ap, ◌∙◌}
use Rattle.std.specs.Result.{result_err}
use Rattle.des_lines.specs.declared.fault.FaultKind.TheVariants.{KeyText}
use Rattle.des_lines.specs.Texts.{text_fault}
use Rattle.des_lines.proofs.Components.{components-fail}
use Rattle.des_lines.proofs.lines.components_line.Goals as goal

-- the digits write components
pub returns-clause-fault : goal.returns-clause-fault
returns-clause-fault g c =
    let none : text_fault KeyText c.args.digits.now ≡ None = sym c.decode.ensures.fault ∙ ap result_err c.in_ok-decode.was in
    let bytes = c.in_ok-decode.ensures.bytes in
    components-fail c.args.digits.now g.row.N c.combined_line.result c.requires.size c.requires.two none
    (rw bytes at c.combined_line.ensures.fault)
