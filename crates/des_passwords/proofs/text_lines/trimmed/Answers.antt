use Rattle.std.proofs.Common.{refl}
use Rattle.std.proofs.lemmas.Str.Ascii.{trim_ascii_is}
use Rattle.des_passwords.specs.TextLines.{trimmed}
use Rattle.des_passwords.proofs.text_lines.trimmed.Goals as goal

pub returns : goal.returns
unfolding trimmed
returns c = trim_ascii_is c.args.text.now _ _ refl c.trim_ascii.ensures.value
