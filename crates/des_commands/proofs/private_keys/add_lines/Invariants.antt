use Rattle.std.proofs.Common.{◌≡◌, ◌++◌}
use Rattle.des_commands.specs.PrivateKeys.{first_lines}
use Rattle.des_commands.proofs.private_keys.add_lines.Given as goal

-- the lines so far follow the text
abbrev pub invariant-lines : goal.invariant-lines
invariant-lines l = l.text.items ≡ l.initial.text.items ++ first_lines l.encoded l.number
