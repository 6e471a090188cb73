use Rattle.std.proofs.Common.{refl}
use Rattle.des_passwords.proofs.DecodedTexts.{decodes_consumes, nothing_given, read_consumes}
use Rattle.des_passwords.proofs.base64_reader.CharactersRead.read.Goals as goal

pub returns-clause-bytes : goal.returns-clause-bytes
returns-clause-bytes g c =
    read_consumes _ _ _ _ (decodes_consumes _ _ _ _ _ _ _ c.read_decoded.ensures.decoded)
    (λ none some. nothing_given _ _ _ _ (c.read_decoded.ensures.ended none some refl))
