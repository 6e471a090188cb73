use Rattle.std.proofs.Common.{rules, ◌≢◌, codes}
use Rattle.des_arguments.proofs.DerivationTexts.{some-counted, none-counted}
use Rattle.des_arguments.proofs.arguments.passwords.derivation_of.Goals as goal

-- a text with a count
pub returns-in_default-clause-named : goal.returns-in_default-clause-named
returns-in_default-clause-named c =
    some-counted c.args.text.now c.derivation_with_count.result c.derivation_with_count.ensures.named

-- another text
pub returns-in_default-clause-none : goal.returns-in_default-clause-none
returns-in_default-clause-none c =
    let md5 : c.args.text.now ≢ codes "md5" = search rules in
    let sha1 : c.args.text.now ≢ codes "sha1" = search rules in
    let sha256 : c.args.text.now ≢ codes "sha256" = search rules in
    none-counted c.args.text.now c.derivation_with_count.result md5 sha1 sha256
    c.derivation_with_count.ensures.none
