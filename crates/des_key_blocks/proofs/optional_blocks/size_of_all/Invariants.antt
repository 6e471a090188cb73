use Rattle.std.proofs.Common.{◌≡◌, ◌≤◌, map, take}
use Rattle.des_key_blocks.specs.OptionalBlocks.{size_of_all}
use Rattle.des_key_blocks.proofs.optional_blocks.size_of_all.Given as goal

-- the characters of the blocks so far
abbrev pub invariant-loop-block : goal.invariant-loop-block
invariant-loop-block l = record {
  few : l.size ≤ 9999;
  so_far : l.size ≡ size_of_all (take l.block-index (map (λ block. (block.name, block.content.now)) l.blocks));
}
