use Rattle.std.proofs.Common.{◌≡◌, true, take}
use Rattle.std.specs.List.{list_all}
use Rattle.std.specs.Prelude.{not}
use Rattle.des_key_blocks.specs.OptionalBlocks.{is_filling}
use Rattle.des_key_blocks.proofs.optional_blocks.are_placed.Given as goal

-- none of the blocks so far fills
abbrev pub invariant-loop-block : goal.invariant-loop-block
invariant-loop-block l =
    list_all (λ block. not (is_filling (block.name, block.content.now))) (take l.block-index l.others) ≡ true
