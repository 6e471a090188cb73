use Rattle.std.proofs.Common.{refl}
use Rattle.std.proofs.lemmas.Str.Ascii.{trim_ascii_is}
use Rattle.des_passwords.specs.TextLines.{trimmed}
use Rattle.des_columns.proofs.jasypt.trimmed.Goals as goal

pub returns-clause-trimmed : goal.returns-clause-trimmed
unfolding trimmed
returns-clause-trimmed c = trim_ascii_is c.args.value.now _ _ refl c.trim_ascii.ensures.value
