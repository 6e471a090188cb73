use Rattle.std.proofs.Common.{◌≡◌, ◌++◌, length}
use Rattle.des_passwords.specs.Base64Lines.{characters_in}
use Rattle.des_passwords.specs.TextLines.{lines_of}
use Rattle.des_passwords.proofs.base64_lines.characters_of.Given as goal

-- what the lines before have, and what those that are left have, is what all have
abbrev pub invariant-lines : goal.invariant-lines
invariant-lines l = record {
  read : l.characters.items ++ characters_in (lines_of l.rest) ≡ characters_in (lines_of l.text);
}

abbrev pub decreases-lines : goal.decreases-lines
decreases-lines l = length l.rest
