use Rattle.des_key_blocks.proofs.key_blocks.key_context.Goals as goal

pub returns-in_err-context-clause-found : goal.returns-in_err-context-clause-found
returns-in_err-context-clause-found c = λ layout.
    absurd (c.in_err-context.ensures.only layout.header layout.blocks layout.front layout.rest layout.parts layout.fact)

pub returns-clause-found : goal.returns-clause-found
returns-clause-found c = λ layout.
    (c.in_ok-context.ensures.only layout.header layout.blocks layout.front layout.rest layout.parts layout.fact).2
