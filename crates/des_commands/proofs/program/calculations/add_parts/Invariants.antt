use Rattle.std.proofs.Common.{IfSome}
use Rattle.des_lines.specs.Keys.{IsKeySize}
use Rattle.des_commands.proofs.program.calculations.add_parts.Given as goal

-- the first component says how many bytes each has
abbrev pub invariant-loop-path : goal.invariant-loop-path
invariant-loop-path l = record {
  size : IfSome l.size IsKeySize;
}
