use Rattle.std.proofs.Common.{◌≡◌, ◌+◌, ◌≤◌, ◌<◌, ℕ, length, get_or, arith}
use Rattle.std.proofs.lemmas.Grind.{get_or_default_zero}
use Rattle.des_commands.specs.declared.lines.columns.LineColumn.{LineColumn}
use Rattle.des_commands.specs.LineColumns.{IsWhole, start_of}
use Rattle.des_commands.proofs.LineRuns.{within}
use Rattle.des_commands.proofs.lines.columns.LineColumn.text.Goals as goal

-- a text ends within the column's
inside : (column : LineColumn) (at from size : ℕ) → IsWhole column → at < length column.kinds.items
    → from ≡ start_of column.lengths.items at → size ≡ get_or column.text_lengths.items at size
    → from + size ≤ length column.texts.items
inside column at from size whole below begins is =
    let fits : size ≤ get_or column.lengths.items at 0 =
    omega (
      arith,
      is,
      whole.within at,
      get_or_default_zero column.text_lengths.items at size (omega (arith, below, whole.text_lengths)),
    ) in
    omega (
      arith,
      begins,
      whole.texts,
      within column.lengths.items at size (omega (arith, below, whole.lengths)) fits,
    )

pub overflow_add-result : goal.overflow_add-result
overflow_add-result c =
    let ends = inside c.args.self.now c.args.at c.args.from c.index.result.now c.requires.column c.requires.at
    c.requires.from c.index.ensures in
    omega (arith, ends, c.args.self.now.texts.ok.0, c.args.self.now.texts.ok.1, c.args.self.now.texts.small)

pub slice_bounds-result-end : goal.slice_bounds-result-end
slice_bounds-result-end c =
    let ends = inside c.args.self.now c.args.at c.args.from c.index.result.now c.requires.column c.requires.at
    c.requires.from c.index.ensures in
    omega (arith, ends, c.deref.ensures.value, c.deref.ensures.len, c.args.self.now.texts.ok.0)
