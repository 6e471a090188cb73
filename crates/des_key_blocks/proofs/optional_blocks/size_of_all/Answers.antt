use Rattle.std.proofs.Common.{get_or, refl, arith}
use Rattle.des_key_blocks.specs.OptionalBlocks.{size_of_all}
use Rattle.des_key_blocks.proofs.OptionalBlockSizes.{no_block, size-more, size-within, size_of-least}
use Rattle.des_key_blocks.proofs.optional_blocks.size_of_all.Goals as goal

pub loop-block-init : goal.loop-block-init
unfolding size_of_all
loop-block-init c = record { few = omega arith; so_far = refl }

pub returns-then-block-gt-MAX_CHARACTERS-clause-none : goal.returns-then-block-gt-MAX_CHARACTERS-clause-none
returns-then-block-gt-MAX_CHARACTERS-clause-none c =
    let block = get_or c.args.blocks.now c.loop-block.block-index no_block in
    let within = size-within c.args.blocks.now c.loop-block.block-index no_block c.loop-block-test.true in
    let least = size_of-least block.content.now in
    let long = c.if-block-gt-MAX_CHARACTERS.true in
    omega (arith, within, least, long)

pub returns-then-size-gt-MAX_CHARACTERS-clause-none : goal.returns-then-size-gt-MAX_CHARACTERS-clause-none
returns-then-size-gt-MAX_CHARACTERS-clause-none c =
    let within = size-within c.args.blocks.now c.loop-block.block-index no_block c.loop-block-test.true in
    let so_far = c.loop-block.invariant.so_far in
    let is = c.size_of-size.ensures in
    let long = c.if-size-gt-MAX_CHARACTERS.true in
    omega (arith, within, so_far, is, long)

pub loop-block-preserved : goal.loop-block-preserved
loop-block-preserved c = record {
  few = c.if-size-gt-MAX_CHARACTERS.false;
  so_far =
      let more = size-more c.args.blocks.now c.loop-block.block-index no_block c.loop-block-test.true in
      let so_far = c.loop-block.invariant.so_far in
      let is = c.size_of-size.ensures in
      omega (arith, more, so_far, is);
}
