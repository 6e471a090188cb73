use Rattle.std.proofs.Common.{◌≡◌, ℕ, List, ◌++◌, take}
use Rattle.des_key_blocks.specs.declared.key_block_header.Header.{Header}
use Rattle.des_lines.specs.KeyBlockLines.{IsReadable, optional_lines}
use Rattle.des_lines.proofs.key_block_lines.add_optional_blocks.Given as goal

-- the lines of the blocks before the place are added
abbrev pub invariant-loop-place : goal.invariant-loop-place
invariant-loop-place l = (header : Header) (blocks : List (List ℕ × List ℕ)) → IsReadable header blocks l.block
    → l.lines.items ≡ l.initial.lines.items ++ optional_lines (take l.place blocks)
