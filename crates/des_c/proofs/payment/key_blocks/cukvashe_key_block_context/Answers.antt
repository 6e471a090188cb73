use Rattle.std.proofs.Common.{refl, ap, ◌∙◌}
use Rattle.des_key_blocks.specs.KeyBlockHeaders.{context_text}
use Rattle.des_c.proofs.payment.key_blocks.cukvashe_key_block_context.Goals as goal

pub returns-in-Ok-clause-found : goal.returns-in-Ok-clause-found
returns-in-Ok-clause-found c = λ layout. (refl, c.character.ensures ∙ ap context_text (c.in-Ok.ensures.found layout))

-- a block with parts has no fault
pub returns-in-Err-clause-found : goal.returns-in-Err-clause-found
returns-in-Err-clause-found c = λ layout. absurd (c.in-Err.ensures.found layout)
