use Rattle.std.proofs.Common.{rules}
use Rattle.std.proofs.lemmas.Fn.{filter_same}
use Rattle.des_lines.proofs.digits.strip.Goals as goal

-- what the closure keeps is what is no white space
pub returns-clause-text : goal.returns-clause-text
returns-clause-text c = filter_same _ _ _ (λ x b f' k. search rules) _ _ c.retain.ensures.filtered
