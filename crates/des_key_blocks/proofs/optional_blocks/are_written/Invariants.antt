use Rattle.std.proofs.Common.{◌≡◌, true, take}
use Rattle.std.specs.List.{list_all}
use Rattle.des_key_blocks.specs.OptionalBlocks.{is_written}
use Rattle.des_key_blocks.proofs.optional_blocks.are_written.Given as goal

-- the blocks so far are written
abbrev pub invariant-loop-block : goal.invariant-loop-block
invariant-loop-block l =
    list_all (λ block. is_written (block.name, block.content.now)) (take l.block-index l.blocks) ≡ true
