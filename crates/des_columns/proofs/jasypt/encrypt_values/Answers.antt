-- A value more.
use Rattle.std.proofs.Common.{◌≡◌, ℕ, ◌+◌, ◌-◌, ◌<◌, List, [], ◌++◌, length, take, drop, get_or, ap, sym, ◌∙◌, arith}
use Rattle.std.proofs.lemmas.List.{length-append}
use Rattle.std.proofs.lemmas.Simd.{get_or-zip2, length-zip2}
use Rattle.des_columns.specs.Columns.{pieces}
use Rattle.des_columns.specs.Jasypt.{IsWritten, salted, value_size}
use Rattle.des_columns.proofs.Pieces.{length-pieces, value-at}
use Rattle.des_columns.proofs.WrittenColumns.{text-next, written-end, written-next}
use Rattle.des_columns.proofs.jasypt.encrypt_values.Goals as goal

length-salted : (salts texts : List (List ℕ)) (count : ℕ) → length salts ≡ count → length texts ≡ count
    → length (salted salts texts) ≡ count
length-salted salts texts count s t = length-zip2 ◌++◌ salts texts (s ∙ sym t) ∙ s

pub texts-preserved : goal.texts-preserved
texts-preserved c =
    let k : ℕ = c.texts.k in
    let from : ℕ = c.texts.from in
    let lengths : List ℕ = c.args.lengths.now in
    let bytes : List ℕ = c.args.texts.now in
    let size : ℕ = from + get_or lengths k 0 - from in
    let text : List ℕ = take size (drop from bytes) in
    let salts : List (List ℕ) = c.args.salts.now in
    let there : k < length salts = omega (arith, c.texts-test.true, c.requires.salts) in
    let below : k < length lengths = c.texts-test.true in
    let at = text-next lengths bytes k from size c.requires.whole c.texts.invariant.from below (omega arith) in
    let next =
    written-next value_size (λ n. value_size (8 + n)) (IsWritten c.args.by c.args.iterations c.args.password.now)
    (salted salts (pieces lengths bytes)) lengths c.texts.values k c.texts.start (c.texts.auto.values ∙ c.requires.values)
    (length-salted salts (pieces lengths bytes) (length lengths) c.requires.salts (length-pieces lengths bytes))
    c.texts.invariant.start c.texts.invariant.written c.value_size-size.result _ c.write_value.new.value below
    (c.value_size-size.ensures ∙ ap (λ n. value_size (8 + n)) at.0) c.write_value.auto.value
    (get_or-zip2 ◌++◌ salts (pieces lengths bytes) k [] [] [] there (omega (arith, below, length-pieces lengths bytes))
    ∙ ap (λ l. get_or salts k [] ++ l) (sym (value-at lengths bytes k from size below c.texts.invariant.from (omega arith))))
    (c.value_size-size.ensures
    ∙ ap value_size (omega (arith, length-append (get_or salts k []) text, c.told-salts k there))) c.write_value.ensures in
    record {
      from = at.1;
      start = next.0;
      written = next.1;
    }

pub returns-clause-written : goal.returns-clause-written
returns-clause-written c =
    let lengths : List ℕ = c.args.lengths.now in
    let bytes : List ℕ = c.args.texts.now in
    let salts : List (List ℕ) = c.args.salts.now in
    written-end value_size (λ n. value_size (8 + n)) (IsWritten c.args.by c.args.iterations c.args.password.now)
    (salted salts (pieces lengths bytes)) lengths c.texts.values c.texts.k c.texts.start
    (c.texts.auto.values ∙ c.requires.values)
    (length-salted salts (pieces lengths bytes) (length lengths) c.requires.salts (length-pieces lengths bytes))
    c.texts.invariant.start c.texts.invariant.written c.texts-test.false
