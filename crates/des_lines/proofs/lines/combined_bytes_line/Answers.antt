use Rattle.std.proofs.Common.{rules, ◌≡◌}
use Rattle.des_lines.specs.Lines.{key_size_of}
use Rattle.des_lines.proofs.lines.combined_bytes_line.Goals as goal

-- each by the size of a component
pub returns-in-8-clause-fault : goal.returns-in-8-clause-fault
returns-in-8-clause-fault c =
    let size : key_size_of c.args.size ≡ 8 = search rules in
    rw size c.combined_line.ensures.fault

pub returns-in-16-clause-fault : goal.returns-in-16-clause-fault
returns-in-16-clause-fault c =
    let size : key_size_of c.args.size ≡ 16 = search rules in
    rw size c.combined_line-in-16.ensures.fault

pub returns-in_default-clause-fault : goal.returns-in_default-clause-fault
returns-in_default-clause-fault c =
    let size : key_size_of c.args.size ≡ 24 = search rules in
    rw size c.combined_line-in_default.ensures.fault
