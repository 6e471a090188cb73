use Rattle.std.proofs.Common.{rules, ◌≡◌}
use Rattle.des_lines.specs.declared.fault.FaultKind.TheVariants.{KeyText}
use Rattle.des_lines.specs.Lines.{component_size, components_fault}
use Rattle.des_lines.specs.Texts.{text_fault}
use Rattle.des_lines.proofs.lines.combine_line.Goals as goal

-- each by the length of a component
pub returns-then-length-count-clause-fault : goal.returns-then-length-count-clause-fault
returns-then-length-count-clause-fault c =
    let fault : components_fault c.args.count c.args.digits.now ≡ text_fault KeyText c.args.digits.now = search rules in
    let size : component_size c.args.count c.args.digits.now ≡ 8 = search rules in
    rw (fault, size) c.components_line.ensures.fault

pub returns-then-length-count-2-clause-fault : goal.returns-then-length-count-2-clause-fault
returns-then-length-count-2-clause-fault c =
    let fault : components_fault c.args.count c.args.digits.now ≡ text_fault KeyText c.args.digits.now = search rules in
    let size : component_size c.args.count c.args.digits.now ≡ 16 = search rules in
    rw (fault, size) c.components_line-then-length-count-2.ensures.fault

pub returns-then-length-count-3-clause-fault : goal.returns-then-length-count-3-clause-fault
returns-then-length-count-3-clause-fault c =
    let fault : components_fault c.args.count c.args.digits.now ≡ text_fault KeyText c.args.digits.now = search rules in
    let size : component_size c.args.count c.args.digits.now ≡ 24 = search rules in
    rw (fault, size) c.components_line-then-length-count-3.ensures.fault
