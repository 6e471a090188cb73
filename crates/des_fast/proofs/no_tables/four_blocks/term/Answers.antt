use Rattle.des_fast.proofs.ChosenTerms.{splat_term}
use Rattle.des_fast.proofs.no_tables.four_blocks.term.Goals as goal

pub returns : goal.returns
returns c bytes = splat_term c.args.k bytes c.requires
