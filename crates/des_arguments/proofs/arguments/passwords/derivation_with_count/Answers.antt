use Rattle.des_arguments.proofs.DerivationTexts.{none-neither}
use Rattle.des_arguments.proofs.arguments.passwords.derivation_with_count.Goals as goal

-- neither word begins the text
pub returns-in_err-count-in-None-clause-none : goal.returns-in_err-count-in-None-clause-none
returns-in_err-count-in-None-clause-none c =
    none-neither c.args.text.now c.from_residual-in_err-count-in-None.result c.in-None.ensures.cases
    c.in_err-count-in-None.ensures.cases
