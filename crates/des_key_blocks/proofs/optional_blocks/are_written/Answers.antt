use Rattle.std.proofs.Common.{◌≡◌, List, false, get_or, sym, ap, ◌∙◌, rules}
use Rattle.std.proofs.lemmas.List.{take_all}
use Rattle.std.proofs.lemmas.List.Folds.{list_all-map, list_all_at}
use Rattle.std.specs.List.{list_all}
use Rattle.des_key_blocks.specs.OptionalBlocks.{is_written}
use Rattle.des_key_blocks.specs.declared.optional_blocks.OptionalBlock.{OptionalBlock}
use Rattle.des_key_blocks.proofs.OptionalBlockSizes.{no_block, pair_of}
use Rattle.des_key_blocks.proofs.optional_blocks.are_written.Goals as goal

pub returns-then-not-is_written : goal.returns-then-not-is_written
returns-then-not-is_written c =
    let blocks : List OptionalBlock = c.args.blocks.now in
    let this : is_written (pair_of (get_or blocks c.loop-block.block-index no_block)) ≡ false = search rules in
    sym (list_all-map is_written pair_of blocks
    ∙ list_all_at (λ block. is_written (pair_of block)) blocks c.loop-block.block-index no_block c.loop-block-test.true
    this)

pub returns : goal.returns
returns c =
    let blocks : List OptionalBlock = c.args.blocks.now in
    sym (list_all-map is_written pair_of blocks
    ∙ ap (list_all (λ block. is_written (pair_of block)))
    (sym (take_all c.loop-block.block-index blocks c.loop-block-test.false))
    ∙ c.loop-block.invariant)
