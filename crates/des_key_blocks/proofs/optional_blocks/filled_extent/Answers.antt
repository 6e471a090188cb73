use Rattle.std.proofs.Common.{arith}
use Rattle.des_key_blocks.proofs.OptionalBlockSizes.{pairs_of, size-filled}
use Rattle.des_key_blocks.proofs.optional_blocks.filled_extent.Goals as goal

pub returns-clause-size : goal.returns-clause-size
returns-clause-size c =
    let is = c.in-Some.ensures.some.1 in
    let filled = size-filled (pairs_of c.args.blocks.now) (λ whole. c.if-size-eq0.false (omega (arith, is))) in
    omega (arith, is, filled)
