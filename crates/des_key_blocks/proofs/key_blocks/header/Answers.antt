use Rattle.des_key_blocks.proofs.key_blocks.header.Goals as goal

pub returns-in_err-header-clause-only : goal.returns-in_err-header-clause-only
returns-in_err-header-clause-only c = λ header blocks front rest parts sealed.
    absurd (c.in_err-header.ensures.only header blocks front rest parts sealed)

pub returns-clause-only : goal.returns-clause-only
returns-clause-only c = λ header blocks front rest parts sealed.
    (c.in_ok-header.ensures.only header blocks front rest parts sealed).0
