use Rattle.std.proofs.Common.{◌≡◌, true, false, refl}
use Rattle.std.proofs.lemmas.Bool.{false_from_ne_true}
use Rattle.std.proofs.lemmas.Str.{IsUtf8-from_is_utf8, is_utf8-from_IsUtf8}
use Rattle.std.specs.Str.{is_utf8}
use Rattle.des_commands.proofs.lines.answers.is_text.Goals as goal

pub returns-in-Ok : goal.returns-in-Ok
returns-in-Ok c =
    let utf8 : is_utf8 c.args.bytes.now ≡ true = is_utf8-from_IsUtf8 c.args.bytes.now c.in-Ok.ensures.cases.1 in
    let printable = rw c.in-Ok.ensures.cases.0 at c.are_printable_characters.ensures in
    rw utf8 printable

pub returns-in-Err : goal.returns-in-Err
returns-in-Err c =
    let no : is_utf8 c.args.bytes.now ≡ false =
    false_from_ne_true (is_utf8 c.args.bytes.now) (λ utf8. c.in-Err.ensures.cases.0 (IsUtf8-from_is_utf8 c.args.bytes.now utf8)) in
    rw no refl
