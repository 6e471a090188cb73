use Rattle.std.proofs.Common.{◌∙◌}
use Rattle.des_lines.proofs.lines.weak_line.Goals as goal

-- the key is the one that the digits write
pub returns-clause-line : goal.returns-clause-line
returns-clause-line c =
    let key = c.bytes.ensures.value ∙ c.in_ok-key.ensures.key in
    let text = c.as_bytes.ensures.value in
    let items = c.in_ok-from_slice.ensures.items in
    let is_line = rw key at c.weak_text-text.ensures in
    rw (items, text) is_line
