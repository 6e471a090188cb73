use Rattle.std.proofs.Common.{◌≡◌, ◌++◌, take}
use Rattle.des_lines.specs.KeyBlockLines.{shown_text}
use Rattle.des_lines.proofs.key_block_lines.add_shown.Given as goal

-- the characters before the index are added
abbrev pub invariant-loop-character : goal.invariant-loop-character
invariant-loop-character l =
    l.lines.items ≡ l.initial.lines.items ++ shown_text (take l.character-index l.text)
