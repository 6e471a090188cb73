use Rattle.des_key_blocks.proofs.BlockParts.{sealed-there}
use Rattle.des_key_blocks.proofs.key_blocks.layout_of.Goals as goal

pub returns-in_err-header-clause-only : goal.returns-in_err-header-clause-only
returns-in_err-header-clause-only c = λ header blocks front rest parts sealed.
    absurd (c.in_err-header.ensures.only header blocks front rest parts)

pub returns-then-not-is_sealed_length-clause-only : goal.returns-then-not-is_sealed_length-clause-only
returns-then-not-is_sealed_length-clause-only c = λ header blocks front rest parts sealed.
    let found = c.in_ok-header.ensures.only header blocks front rest parts in
    let length_there = sealed-there c.args.block.now front rest c.in_ok-header.front c.in_ok-header.header.version
    header.version parts.is_block found.1 found.0.0 sealed in
    absurd (cc (length_there, c.is_sealed_length.ensures, c.if-not-is_sealed_length.true))

pub returns-clause-only : goal.returns-clause-only
returns-clause-only c = λ header blocks front rest parts sealed.
    c.in_ok-header.ensures.only header blocks front rest parts
