-- A value more.
use Rattle.std.proofs.Common.{rules, w32, SFits, ◌≡◌, ℕ, ℤ, Bool, Option, ◌+◌, ◌-◌, List, ◌∷◌, ◌++◌, length, take, drop, get_or, refl, ◌≤◌, sym, ap, ap₂, ◌∙◌, arith}
use Rattle.std.proofs.lemmas.Int.{to_z-of_z}
use Rattle.std.proofs.lemmas.List.{length-append, length-drop, length-take-le, take_at}
use Rattle.des_columns.specs.Columns.{AreDecrypted, ReadsAs, pieces, plain_of}
use Rattle.des_columns.specs.Forms.{filled_to, size_in, status_after, text_after}
use Rattle.des_columns.specs.declared.form.ValueForm.{ValueForm}
use Rattle.des_columns.proofs.Pieces.{next-left, pieces-left, sum-left}
use Rattle.des_columns.proofs.ReadColumns.{column-end, column-next, column-none}
use Rattle.des_columns.proofs.WrittenColumns.{text-next}
use Rattle.des_columns.proofs.column.Reader.read.Given.{Over}
use Rattle.des_columns.proofs.column.Reader.read.Goals.{After-part_of-count}
use Rattle.des_columns.proofs.column.Reader.read.Goals as goal

pub values-init : goal.values-init
values-init g c = record {
  start = refl;
  waiting = record { fit = omega arith; within = omega arith; in_turn = tt };
  read = column-none (ReadsAs c.args.self.now.form c.args.self.now.mode (g.K.ValueKeys.has_key c.args.self.now.keys)
      (g.K.ValueKeys.decryption c.args.self.now.keys));
}

pub refill-requires-clause-whole : goal.refill-requires-clause-whole
refill-requires-clause-whole g c =
    sum-left (λ n. n) c.args.lengths.now c.args.values.now c.values.k c.values.start c.requires.whole c.values.invariant.start

pub refill-requires-clause-waiting : goal.refill-requires-clause-waiting
refill-requires-clause-waiting g c =
    rw (pieces-left c.args.lengths.now c.args.values.now c.values.k c.values.start (omega (arith, c.values-test.true))
    c.values.invariant.start) c.values.invariant.waiting

-- what is decrypted of the next value fits its place, which is as long as the value, and whether this waits
next : (g : Over) (c : After-part_of-count g)
    → let size = c.values.start + get_or c.args.lengths.now c.values.k 0 - c.values.start in
    (length c.part_of-count.result.now ≤ length (take size (drop c.values.start c.values.texts)))
    × (length (take size (drop c.values.start c.values.texts)) ≡ length (take size (drop c.values.start c.args.values.now)))
    × AreDecrypted c.args.self.now.form (g.K.ValueKeys.decryption c.args.self.now.keys)
    (take size (drop c.values.start c.args.values.now) ∷ drop (c.values.k + 1) (pieces c.args.lengths.now c.args.values.now))
    c.refill.new.waiting c.refill.new.buffer
next g c =
    let n : ℕ = get_or c.args.lengths.now c.values.k 0 in
    let size : ℕ = c.values.start + n - c.values.start in
    let value : length (take size (drop c.values.start c.args.values.now)) ≡ n =
    (text-next c.args.lengths.now c.args.values.now c.values.k c.values.start size c.requires.whole c.values.invariant.start
    c.values-test.true (omega arith)).0 in
    let place : length (take size (drop c.values.start c.values.texts)) ≡ n =
    (text-next c.args.lengths.now c.values.texts c.values.k c.values.start size
    (c.requires.whole ∙ sym (c.values.auto.texts ∙ c.requires.texts)) c.values.invariant.start c.values-test.true
    (omega arith)).0 in (
      omega (arith, c.part_of-count.ensures.within, value, place),
      place ∙ sym value,
      rw (next-left c.args.lengths.now c.args.values.now c.values.k c.values.start size c.values-test.true
          c.values.invariant.start (omega arith)) at c.refill.ensures,
    )

pub decrypt_next-requires-clause-waiting : goal.decrypt_next-requires-clause-waiting
decrypt_next-requires-clause-waiting g c = (
  drop (c.values.k + 1) (pieces c.args.lengths.now c.args.values.now),
  (next g (goal.at.decrypt_next-requires-clause-waiting g c).After-part_of-count).2,
)

pub values-preserved : goal.values-preserved
values-preserved g c =
    let k : ℕ = c.values.k in
    let start : ℕ = c.values.start in
    let size : ℕ = start + get_or c.args.lengths.now k 0 - start in
    let form : ValueForm = c.args.self.now.form in
    let f : List ℕ → List ℕ → List ℕ = g.K.ValueKeys.decryption c.args.self.now.keys in
    let has : List ℕ → Bool = g.K.ValueKeys.has_key c.args.self.now.keys in
    let value : List ℕ = take size (drop start c.args.values.now) in
    let place : List ℕ = take size (drop start c.values.texts) in
    let count : ℕ = length c.part_of-count.result.now in
    let here = next g (goal.at.values-preserved g c).After-part_of-count in
    let decrypted : List ℕ = c.decrypt_next.new.plain in
    let plain : take count (decrypted ++ drop count place) ≡ plain_of form c.args.self.now.mode f value =
    take_at decrypted (drop count place) count (c.decrypt_next.auto.plain ∙ length-take-le count place here.0)
    ∙ c.decrypt_next.ensures.plain in
    let over : length (decrypted ++ drop count place) ≡ length place =
    omega (
      arith,
      length-append decrypted (drop count place),
      c.decrypt_next.auto.plain ∙ length-take-le count place here.0,
      length-drop count place,
      here.0,
    ) in
    let text = ap₂ (λ (e : Option ℤ) (p : List ℕ). text_after e (size_in form p) p) c.fault_of.ensures plain in
    let reading = c.finish-reading.result in
    let fits : SFits w32 reading.status = search rules in
    let more =
    column-next (ReadsAs form c.args.self.now.mode has f) c.args.lengths.now c.args.values.now c.values.texts
    c.values.text_lengths c.values.statuses k start c.requires.whole (c.values.auto.texts ∙ c.requires.texts)
    (c.values.auto.text_lengths ∙ c.requires.text_lengths) (c.values.auto.statuses ∙ c.requires.statuses)
    c.values.invariant.start c.values.invariant.read size reading _ c.finish-reading.new.place c.values-test.true (omega arith)
    (c.finish-reading.auto.place ∙ over) (to_z-of_z w32 reading.status fits)
    (record {
      text = _;
      reads = (
        c.finish-reading.ensures.status
            ∙ ap₂ (λ (e : Option ℤ) (p : List ℕ). status_after e (size_in form p)) c.fault_of.ensures plain,
        refl,
      );
      length_is = c.finish-reading.ensures.length ∙ ap length text;
      placed = c.finish-reading.ensures.text ∙ ap₂ filled_to (over ∙ here.1) text;
    }) in
    record {
      start = more.0;
      waiting = c.decrypt_next.ensures.waiting (drop (k + 1) (pieces c.args.lengths.now c.args.values.now)) here.2;
      read = more.1;
    }

pub returns-clause-read : goal.returns-clause-read
returns-clause-read g c =
    column-end (ReadsAs c.args.self.now.form c.args.self.now.mode (g.K.ValueKeys.has_key c.args.self.now.keys)
    (g.K.ValueKeys.decryption c.args.self.now.keys)) c.args.lengths.now c.args.values.now c.values.texts c.values.text_lengths
    c.values.statuses c.values.k c.values.start c.requires.whole (c.values.auto.texts ∙ c.requires.texts)
    (c.values.auto.text_lengths ∙ c.requires.text_lengths) (c.values.auto.statuses ∙ c.requires.statuses)
    c.values.invariant.start c.values.invariant.read c.values-test.false
