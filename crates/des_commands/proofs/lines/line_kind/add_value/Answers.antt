use Rattle.std.proofs.Common.{◌≡◌, ◌≢◌, ℕ, List, [], append-nil, refl, sym, ◌∙◌, Result, Ok, Err}
use Rattle.std.proofs.lemmas.Result.{IfOk-weaker}
use Rattle.std.specs.Str.{IsTrimAscii}
use Rattle.des_commands.specs.declared.lines.line_fault.LineFault.{LineFault}
use Rattle.des_requests.specs.declared.lines.LineCoding.{LineCoding}
use Rattle.des_commands.specs.declared.lines.line_kind.LineKind.{LineKind}
use Rattle.des_commands.specs.LineKinds.{bytes_in, Adds, AddsValue, StandsForValue}
use Rattle.des_commands.proofs.lines.line_kind.add_value.Goals as goal

-- what a text stands for is a value, or the reason why it has none
of_text : (coding : LineCoding) (line text : List ℕ) (kind : LineKind) (old new : List ℕ) → IsTrimAscii line text
    → StandsForValue text → (found : Result (List ℕ) LineFault) → bytes_in coding text ≡ found
    → Adds found kind old new → AddsValue coding line kind old new
of_text coding line text kind old new trimmed stands (Ok bytes) is added =
    (bytes, (text, trimmed, rw added.0 (stands, is)), added.1)
of_text coding line text kind old new trimmed stands (Err fault) is added =
    ([], (text, trimmed, rw added.0 (stands, is, refl)), added.1 ∙ sym (append-nil old))

pub returns-in-None : goal.returns-in-None
returns-in-None c =
    let text : List ℕ = c.trim_ascii-text.result.now in
    let some : text ≢ [] = λ same. let none = rw same at c.is_empty.ensures in cc in
    IfOk-weaker c.add_bytes.result _ _
    (λ kind. of_text c.args.coding c.args.line.now text kind c.args.values.now.items c.add_bytes.new.values.items
    c.trim_ascii-text.ensures.value (some, c.in-None.ensures.none) _ refl) c.add_bytes.ensures
