use Rattle.std.proofs.Common.{◌≡◌, ◌∙◌, ℕ, List, ◌++◌, length, ap, sym}
use Rattle.std.proofs.lemmas.List.{nil_from_length}
use Rattle.std.proofs.lemmas.Str.{chars_past_char, chars-nil}
use Rattle.std.specs.Str.{chars}
use lib.Utf8.{encode}
use Rattle.des_passwords.proofs.bmp_string.split_first.Goals as goal

pub returns-in-Some : goal.returns-in-Some
returns-in-Some c =
    chars_past_char c.args.text.now c.as_str.result.now c.in-Some.first c.utf8.text
    (sym c.chars-chars.ensures.rest ∙ c.in-Some.ensures.steps.0
    ∙ ap (λ (l : List ℕ). encode c.in-Some.first ++ l) (sym c.as_str.ensures))

pub returns-in-None : goal.returns-in-None
returns-in-None c =
    let none : length c.args.text.now ≡ 0 =
    ap length (sym c.chars-chars.ensures.rest) ∙ c.in-None.ensures.steps.0.0 in
    ap chars (nil_from_length c.args.text.now none) ∙ chars-nil
