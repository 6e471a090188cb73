use Rattle.std.proofs.Common.{◌≡◌, ℕ, Bool, true, false, List, [], ◌∷◌, ◌++◌, sym, subst, Option}
use Rattle.std.proofs.KnownBytes.{Consumes-nil, Consumes-trans}
use Rattle.std.specs.Io.KnownBytes.{Consumes, IsAtEnd}
use Rattle.std.specs.List.{concat}
use Rattle.des_commands.specs.declared.lines.columns.LineColumn.{LineColumn}
use Rattle.des_requests.specs.declared.lines.LineCoding.{LineCoding}
use Rattle.des_commands.specs.LineColumns.{AddsLine, IsColumnOf}
use Rattle.des_commands.specs.LineKinds.{ReadsLines}
use Rattle.des_commands.proofs.LineEnds.{on_err}
use Rattle.des_commands.proofs.LineKinds.{Consumes-lines, ReadsLines-nothing, ReadsLines-append, all_read, column_more}
use Rattle.des_commands.proofs.lines.read_lines.Goals as goal

-- there was no line
none : (coding : LineCoding) (there : Bool) (old new : LineColumn) (from to : Option (List ℕ))
    → AddsLine coding there old new from to → there ≡ false → (new ≡ old) × Consumes from to [] × IsAtEnd from
none coding false old new from to added is = added
none coding true old new from to added is = cc

-- a line more
more : (coding : LineCoding) (there : Bool) (old new : LineColumn) (start from to : Option (List ℕ))
    → AddsLine coding there old new from to → there ≡ true → (lines : List (List ℕ)) → ReadsLines lines start from
    → IsColumnOf coding lines old.kinds.items old.values.items old.lengths.items
    → (all : List (List ℕ)) × ReadsLines all start to
    × IsColumnOf coding all new.kinds.items new.values.items new.lengths.items
more coding false old new start from to added is lines reads column = cc
more coding true old new start from to added is lines reads column =
    let line : List ℕ = added.0 in (
      lines ++ line ∷ [],
      ReadsLines-append lines (line ∷ []) start from to reads (to, added.3, Consumes-nil to),
      column_more coding lines old.kinds.items new.kinds.items old.values.items new.values.items old.lengths.items
          new.lengths.items line added.1 added.2 column added.4 added.5 added.6 added.7,
    )

pub returns-then-not-branch-clause-lines : goal.returns-then-not-branch-clause-lines
returns-then-not-branch-clause-lines g c =
    let start = g.R.Read.remaining c.args.reader.now in
    let from = g.R.Read.remaining c.lines.reader in
    let to = g.R.Read.remaining c.read_line.new.reader in
    let lines : List (List ℕ) = c.lines.invariant.0 in
    let ended = none _ c.in_ok-read_line.field-0 _ _ from to c.in_ok-read_line.ensures.line c.if-not-branch.true in (
      lines,
      ReadsLines-nothing lines start from to c.lines.invariant.1 ended.1,
      subst (λ (column : LineColumn). IsColumnOf c.args.coding lines column.kinds.items column.values.items column.lengths.items)
          (sym ended.0) c.lines.invariant.2,
      λ _. all_read lines start from c.lines.invariant.1 ended.2,
    )

pub lines-preserved : goal.lines-preserved
lines-preserved g c =
    more _ c.in_ok-read_line.field-0 _ _ (g.R.Read.remaining c.args.reader.now) (g.R.Read.remaining c.lines.reader)
    (g.R.Read.remaining c.read_line.new.reader) c.in_ok-read_line.ensures.line c.if-not-branch.false c.lines.invariant.0
    c.lines.invariant.1 c.lines.invariant.2

pub returns-in_err-read_line-clause-consumed : goal.returns-in_err-read_line-clause-consumed
returns-in_err-read_line-clause-consumed g c =
    let start = g.R.Read.remaining c.args.reader.now in
    let to = g.R.Read.remaining c.read_line.new.reader in
    let lines : List (List ℕ) = c.lines.invariant.0 in
    let rest = c.read_line.ensures.consumed in
    let consumed : (bytes : List ℕ) × Consumes start to bytes = (
      concat lines ++ rest.0,
      Consumes-trans start (g.R.Read.remaining c.lines.reader) to (concat lines) rest.0
          (Consumes-lines lines start (g.R.Read.remaining c.lines.reader) c.lines.invariant.1) rest.1,
    ) in
    on_err _ consumed
