-- A value more.
use Rattle.std.proofs.Common.{◌≡◌, sum, ℕ, ◌+◌, ◌-◌, ◌<◌, ◌≤◌, List, ◌∷◌, length, take, drop, get_or, refl, ap, sym, ◌∙◌, arith}
use Rattle.std.proofs.lemmas.List.{length-drop, take_rest}
use Rattle.std.proofs.lemmas.List.Elements.{All-drop, All-take}
use Rattle.std.proofs.lemmas.List.Sums.{sum_by-take-le}
use Rattle.std.proofs.lemmas.Slice.{take-put_mid_below}
use Rattle.des_columns.specs.Columns.{pieces}
use Rattle.des_columns.specs.Writings.{AreEnciphered, IsTextSize, IsWriting, value_size}
use Rattle.des_columns.specs.declared.form.ValueForm.{ValueForm}
use Rattle.des_columns.proofs.Pieces.{length-pieces, next-left, pieces-left, sum-left, value-at}
use Rattle.des_columns.proofs.SpreadKeySizes.{spread_keys-le}
use Rattle.des_columns.proofs.Turns.{length-put}
use Rattle.des_columns.proofs.WrittenColumns.{text-next, written-end, written-next, written-none}
use Rattle.des_columns.proofs.writing.write_values.Given.{Over}
use Rattle.des_columns.proofs.writing.write_values.Goals.{After-refill}
use Rattle.des_columns.proofs.writing.write_values.Goals as goal
use borrow.Rule.Slice.PartMut.{put_mid}

pub texts-init : goal.texts-init
texts-init g c = record {
  from = refl;
  start = refl;
  waiting = record { fit = omega arith; within = omega arith; in_turn = tt };
  written =
      written-none (value_size c.args.form)
      (IsWriting c.args.form c.args.number c.args.mode
      (g.C.Relating.relation (g.C.Key.KeyBytes.bytes_of c.args.key.now)));
}

pub refill-requires : goal.refill-requires
refill-requires g c =
    let form : ValueForm = c.args.form in
    let lengths : List ℕ = c.args.lengths.now in
    let k : ℕ = c.texts.k in (
      omega (arith, spread_keys-le _ _ g.met.S.Slice.small_gaps g.met.S.Slice.few_bytes),
      (
        c.spread_keys-keys.ensures,
        (
          sum-left (λ n. n) lengths c.args.texts.now k c.texts.from c.requires.whole c.texts.invariant.from,
          (
            All-take (IsTextSize form) (length lengths - k) (drop k lengths) (All-drop (IsTextSize form) k lengths c.requires.sizes),
            (
              sym (sum-left (value_size form) lengths c.texts.values k c.texts.start
                  (sym (c.texts.auto.values ∙ c.requires.values)) c.texts.invariant.start),
              rw (pieces-left lengths c.args.texts.now k c.texts.from (omega (arith, c.texts-test.true)) c.texts.invariant.from)
                  c.texts.invariant.waiting,
            ),
          ),
        ),
      ),
    )

-- the next text: how long it is, where it ends, and whether it waits
next : (g : Over) (c : After-refill g)
    → let n = get_or c.args.lengths.now c.texts.k 0 in
    let text = take (c.texts.from + n - c.texts.from) (drop c.texts.from c.args.texts.now) in
    (length text ≡ n) × (c.texts.from + length text ≡ sum (take (c.texts.k + 1) c.args.lengths.now))
    × AreEnciphered c.args.form c.args.mode (g.C.KeyInit.is_made_from c.new-cipher.result) g.C.Relating.relation
    (text ∷ drop (c.texts.k + 1) (pieces c.args.lengths.now c.args.texts.now)) c.refill.new.waiting c.refill.new.buffer
next g c =
    let size : ℕ = c.texts.from + get_or c.args.lengths.now c.texts.k 0 - c.texts.from in
    let at =
    text-next c.args.lengths.now c.args.texts.now c.texts.k c.texts.from size c.requires.whole c.texts.invariant.from
    c.texts-test.true (omega arith) in (
      at.0,
      at.1,
      rw (next-left c.args.lengths.now c.args.texts.now c.texts.k c.texts.from size c.texts-test.true
          c.texts.invariant.from (omega arith)) at c.refill.ensures,
    )

pub write_next-requires-clause-waiting : goal.write_next-requires-clause-waiting
write_next-requires-clause-waiting g c = (
  drop (c.texts.k + 1) (pieces c.args.lengths.now c.args.texts.now),
  (next g (goal.at.write_next-requires-clause-waiting g c).After-refill).2,
)

pub texts-preserved : goal.texts-preserved
texts-preserved g c =
    let form : ValueForm = c.args.form in
    let key : List ℕ = g.C.Key.KeyBytes.bytes_of c.args.key.now in
    let W : List ℕ → List ℕ → Type 0 = IsWriting form c.args.number c.args.mode (g.C.Relating.relation key) in
    let k : ℕ = c.texts.k in
    let from : ℕ = c.texts.from in
    let start : ℕ = c.texts.start in
    let lengths : List ℕ = c.args.lengths.now in
    let bytes : List ℕ = c.args.texts.now in
    let vs : List (List ℕ) = pieces lengths bytes in
    let values : List ℕ = c.texts.values in
    let below : k < length lengths = c.texts-test.true in
    let size : ℕ = from + get_or lengths k 0 - from in
    let capacity = c.texts.auto.values ∙ c.requires.values in
    let within : start ≤ length values = omega (arith, c.texts.invariant.start, sum_by-take-le (value_size form) lengths k, capacity) in
    let over : List ℕ = put_mid start (length values - start) values c.refill.new.values in
    let at = next g (goal.at.texts-preserved g c).After-refill in
    let more =
    written-next (value_size form) (value_size form) W vs lengths over k start
    (length-put start (length values - start) values c.refill.new.values (omega (arith, within))
    (c.refill.auto.values ∙ ap length (take_rest values start) ∙ length-drop start values) ∙ capacity)
    (length-pieces lengths bytes) c.texts.invariant.start
    (rw (take-put_mid_below start (length values - start) values c.refill.new.values start (omega arith) within)
    c.texts.invariant.written) c.value_size-size.result (take size (drop from bytes)) c.write_next.new.value below
    (c.value_size-size.ensures ∙ ap (value_size form) at.0) c.write_next.auto.value
    (sym (value-at lengths bytes k from size below c.texts.invariant.from (omega arith))) c.value_size-size.ensures
    (c.write_next.ensures.written key c.new-cipher.ensures) in
    record {
      from = at.1;
      start = more.0;
      waiting = c.write_next.ensures.waiting (drop (k + 1) vs) at.2;
      written = more.1;
    }

pub returns : goal.returns
returns g c =
    let lengths : List ℕ = c.args.lengths.now in
    let bytes : List ℕ = c.args.texts.now in
    let form : ValueForm = c.args.form in
    written-end (value_size form) (value_size form)
    (IsWriting form c.args.number c.args.mode (g.C.Relating.relation (g.C.Key.KeyBytes.bytes_of c.args.key.now)))
    (pieces lengths bytes) lengths c.texts.values c.texts.k c.texts.start (c.texts.auto.values ∙ c.requires.values)
    (length-pieces lengths bytes) c.texts.invariant.start c.texts.invariant.written c.texts-test.false
