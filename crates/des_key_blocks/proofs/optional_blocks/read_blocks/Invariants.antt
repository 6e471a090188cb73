use Rattle.std.proofs.Common.{◌≡◌, ℕ, ◌-◌, ◌≤◌, List, length, map, take, drop}
use Rattle.des_key_blocks.specs.OptionalBlocks.{AreOptionalBlocks}
use Rattle.des_key_blocks.proofs.OptionalBlockReads.{LeftBlocks}
use Rattle.des_key_blocks.proofs.optional_blocks.read_blocks.Given as goal

-- the characters so far are those of the blocks so far, which all blocks of the text begin with; the list after them stays
abbrev pub invariant-loop-at : goal.invariant-loop-at
invariant-loop-at l = record {
  capacity : length l.blocks ≡ 99;
  few : l.count ≤ 99;
  within : l.at ≤ length l.text;
  are : AreOptionalBlocks (map (λ block. (block.name, block.content.now)) (take l.count l.blocks)) (take l.at l.text);
  rest : drop l.count l.blocks ≡ drop l.count l.initial.blocks;
  left : (read : List (List ℕ × List ℕ)) → AreOptionalBlocks read l.text → LeftBlocks read l.count (drop l.at l.text);
}

abbrev pub decreases-loop-at : goal.decreases-loop-at
decreases-loop-at l = length l.text - l.at
