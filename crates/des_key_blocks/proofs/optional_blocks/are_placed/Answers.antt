use Rattle.std.proofs.Common.{◌≡◌, List, true, get_or, take, sym, ap, ◌∙◌, rules}
use Rattle.std.proofs.lemmas.List.{take_all}
use Rattle.std.proofs.lemmas.List.Folds.{list_all_at}
use Rattle.std.specs.List.{list_all}
use Rattle.std.specs.Prelude.{not}
use Rattle.des_key_blocks.specs.OptionalBlocks.{is_filling}
use Rattle.des_key_blocks.specs.declared.optional_blocks.OptionalBlock.{OptionalBlock}
use Rattle.des_key_blocks.proofs.OptionalBlockSizes.{no_block, pair_of}
use Rattle.des_key_blocks.proofs.PlacedBlocks.{placed-is}
use Rattle.des_key_blocks.proofs.optional_blocks.are_placed.Goals as goal

pub returns-then-is_filling : goal.returns-then-is_filling
returns-then-is_filling c =
    let others : List OptionalBlock = take c.unfilling.result c.args.blocks.now in
    let this : is_filling (pair_of (get_or others c.loop-block.block-index no_block)) ≡ true = search rules in
    sym (list_all_at (λ block. not (is_filling (pair_of block))) others c.loop-block.block-index no_block
    c.loop-block-test.true (ap not this))
    ∙ placed-is c.args.blocks.now c.args.size c.unfilling.result c.requires c.unfilling.ensures

pub returns : goal.returns
returns c =
    let others : List OptionalBlock = take c.unfilling.result c.args.blocks.now in
    sym (ap (list_all (λ block. not (is_filling (pair_of block))))
    (sym (take_all c.loop-block.block-index others c.loop-block-test.false))
    ∙ c.loop-block.invariant)
    ∙ placed-is c.args.blocks.now c.args.size c.unfilling.result c.requires c.unfilling.ensures
