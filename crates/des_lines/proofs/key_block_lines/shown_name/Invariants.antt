use Rattle.std.proofs.Common.{◌≡◌, take}
use Rattle.std.specs.String.{string_bytes}
use Rattle.des_lines.specs.KeyBlockLines.{shown_text}
use Rattle.des_lines.proofs.key_block_lines.shown_name.Given as goal

-- the text is that of the characters before the index
abbrev pub invariant-loop-character : goal.invariant-loop-character
invariant-loop-character l = string_bytes l.text ≡ shown_text (take l.character-index l.name)
