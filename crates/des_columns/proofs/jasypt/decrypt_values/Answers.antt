-- A value more.
use Rattle.std.proofs.Common.{rules, w32, SFits, ℕ, ◌+◌, ◌-◌, List, take, get_or, sym, ◌∙◌, arith}
use Rattle.std.proofs.lemmas.List.{length-take-le}
use Rattle.std.proofs.lemmas.Int.{to_z-of_z}
use Rattle.des_columns.specs.Jasypt.{Reads}
use Rattle.des_columns.proofs.ReadColumns.{column-end, column-next}
use Rattle.des_columns.proofs.jasypt.decrypt_values.Goals as goal

pub values-preserved : goal.values-preserved
values-preserved c =
    let k : ℕ = c.values.k in
    let start : ℕ = c.values.start in
    let reading = c.read_value-reading.result in
    let place : List ℕ = c.read_value-reading.new.place in
    let fits : SFits w32 reading.status = search rules in
    let next =
    column-next (Reads c.args.by c.args.iterations c.args.password.now) c.args.lengths.now c.args.values.now c.values.texts
    c.values.text_lengths c.values.statuses k start c.requires.whole (c.values.auto.texts ∙ c.requires.texts)
    (c.values.auto.text_lengths ∙ c.requires.text_lengths) (c.values.auto.statuses ∙ c.requires.statuses)
    c.values.invariant.start c.values.invariant.read (start + get_or c.args.lengths.now k 0 - start) reading _ place
    c.values-test.true (omega arith) c.read_value-reading.auto.place (to_z-of_z w32 reading.status fits)
    (record {
      text = take reading.length place;
      reads = c.read_value-reading.ensures.read;
      length_is = sym (length-take-le reading.length place c.read_value-reading.ensures.within);
      placed = c.read_value-reading.ensures.place;
    }) in
    record {
      start = next.0;
      read = next.1;
    }

pub returns-clause-read : goal.returns-clause-read
returns-clause-read c =
    column-end (Reads c.args.by c.args.iterations c.args.password.now) c.args.lengths.now c.args.values.now c.values.texts
    c.values.text_lengths c.values.statuses c.values.k c.values.start c.requires.whole (c.values.auto.texts ∙ c.requires.texts)
    (c.values.auto.text_lengths ∙ c.requires.text_lengths) (c.values.auto.statuses ∙ c.requires.statuses)
    c.values.invariant.start c.values.invariant.read c.values-test.false
