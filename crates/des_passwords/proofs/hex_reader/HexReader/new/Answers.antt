use Rattle.std.proofs.Common.{◌∙◌, ap, option_and_then}
use Rattle.base64.specs.Read.{Outlook}
use Rattle.des_passwords.proofs.DecodedTexts.{mapped_then}
use Rattle.des_passwords.proofs.DigitsOfText.{from_beginning}
use Rattle.des_passwords.proofs.hex_reader.HexReader.new.Goals as goal

pub returns-clause-bytes : goal.returns-clause-bytes
returns-clause-bytes g c =
    ap (λ (o : Outlook). option_and_then (λ bytes. bytes) o) (from_beginning (g.R.Read.remaining c.args.reader))
    ∙ mapped_then _ _ (g.R.Read.remaining c.args.reader)

pub returns-clause-outlook : goal.returns-clause-outlook
returns-clause-outlook g c = from_beginning (g.R.Read.remaining c.args.reader)
