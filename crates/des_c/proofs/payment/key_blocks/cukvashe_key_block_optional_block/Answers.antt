use Rattle.des_c.proofs.payment.key_blocks.cukvashe_key_block_optional_block.Goals as goal

pub returns-in-Ok-Some-clause-place : goal.returns-in-Ok-Some-clause-place
returns-in-Ok-Some-clause-place c = λ layout done. rw c.in-Ok-Some.field-0-is at (c.in-Ok-Some.ensures.end layout)

pub returns-in-Err-clause-none : goal.returns-in-Err-clause-none
returns-in-Err-clause-none c = λ layout. absurd (c.in-Err.ensures.found layout)
