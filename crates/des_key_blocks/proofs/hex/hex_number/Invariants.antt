use Rattle.std.proofs.Common.{◌≡◌, ◌^◌, ◌<◌, take}
use Rattle.des_key_blocks.specs.Hex.{hex_number}
use Rattle.des_key_blocks.proofs.hex.hex_number.Given as goal

-- the number of the characters so far
abbrev pub invariant-loop-character : goal.invariant-loop-character
invariant-loop-character l = record {
  within : l.number < 16 ^ l.character-index;
  some : hex_number l.character-index l.number ≡ take l.character-index l.text;
}
