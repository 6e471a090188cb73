use Rattle.std.proofs.Common.{◌≡◌, map, take}
use Rattle.des_tool.specs.Digits.{bytes_of_digits}
use Rattle.des_tool.proofs.command.digits.parse_blocks.Given as goal

abbrev pub invariant-loop-chunk : goal.invariant-loop-chunk
invariant-loop-chunk l = l.blocks.items ≡ map bytes_of_digits (take l.chunk-index l.chunks)
