-- The blocks before the index are reversed, and those from it on are as they were.
use Rattle.std.proofs.Common.{◌≡◌, ◌++◌, map, reverse, take, drop}
use Rattle.des_key_wraps.proofs.cms_key_wrap.reverse_bytes.Given as goal

abbrev pub invariant-loop-block : goal.invariant-loop-block
invariant-loop-block l =
    l.blocks ≡ map reverse (take l.block-index l.initial.blocks) ++ drop l.block-index l.initial.blocks
