use Rattle.std.proofs.Common.{◌∙◌}
use Rattle.des_passwords.proofs.DecodedTexts.{mapped, mapped_then}
use Rattle.des_passwords.proofs.base64_reader.Base64Reader.new.Goals as goal

pub returns-clause-bytes : goal.returns-clause-bytes
returns-clause-bytes g c = c.new.ensures.remaining ∙ mapped_then _ _ (g.R.Read.remaining c.args.reader)

pub returns-clause-outlook : goal.returns-clause-outlook
returns-clause-outlook g c = c.new.ensures.outlook ∙ mapped _ _ (g.R.Read.remaining c.args.reader)
