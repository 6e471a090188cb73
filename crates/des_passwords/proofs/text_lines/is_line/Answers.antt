use Rattle.std.proofs.Common.{◌∙◌, ap, List, ℕ}
use Rattle.std.proofs.lemmas.Str.Ascii.{trim_ascii_end_is}
use Rattle.std.specs.Str.{bytes_eq}
use Rattle.des_passwords.proofs.text_lines.is_line.Goals as goal

pub returns : goal.returns
returns c =
    c.eq.ensures
    ∙ ap (λ (l : List ℕ). bytes_eq l c.args.wanted.now)
    (trim_ascii_end_is c.args.line.now _ c.trim_ascii_end.ensures.value)
