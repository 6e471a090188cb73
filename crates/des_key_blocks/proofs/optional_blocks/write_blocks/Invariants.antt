use Rattle.std.proofs.Common.{◌≡◌, map, take}
use Rattle.des_key_blocks.specs.OptionalBlocks.{AreOptionalBlocks, blocks_text, size_of_all}
use Rattle.des_key_blocks.proofs.optional_blocks.write_blocks.Given as goal

-- the blocks so far stand in the characters so far
abbrev pub invariant-loop-block : goal.invariant-loop-block
invariant-loop-block l = record {
  so_far : l.at ≡ size_of_all (take l.block-index (map (λ block. (block.name, block.content.now)) l.blocks));
  are : AreOptionalBlocks (take l.block-index (map (λ block. (block.name, block.content.now)) l.blocks))
      (take l.at l.text);
  text : take l.at l.text ≡ blocks_text (take l.block-index (map (λ block. (block.name, block.content.now)) l.blocks));
}
