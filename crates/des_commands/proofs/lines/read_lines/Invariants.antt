use Rattle.std.proofs.Common.{List, ℕ}
use Rattle.des_commands.specs.LineColumns.{IsColumnOf}
use Rattle.des_commands.specs.LineKinds.{ReadsLines}
use Rattle.des_commands.proofs.lines.read_lines.Given as goal

-- the column is that of the lines so far
abbrev pub invariant-lines : goal.invariant-lines
invariant-lines g l =
    (lines : List (List ℕ)) × ReadsLines lines (g.R.Read.remaining l.initial.reader) (g.R.Read.remaining l.reader)
    × IsColumnOf l.coding lines l.column.kinds.items l.column.values.items l.column.lengths.items
