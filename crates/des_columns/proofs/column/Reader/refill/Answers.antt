-- A value more, and all of them, decrypted.
use Rattle.std.proofs.Common.{◌≡◌, ℕ, ◌+◌, ◌-◌, ◌/◌, ◌++◌, List, length, take, drop, get_or, ap, ap₂, sym, ◌∙◌, arith}
use Rattle.std.specs.List.{flat_map}
use Rattle.std.specs.Simd.{first_chunks}
use Rattle.std.proofs.lemmas.List.{length-map}
use Rattle.std.proofs.lemmas.Slice.{take-put_mid}
use Rattle.des_columns.specs.Forms.{blocks_of, part_of}
use Rattle.des_columns.specs.Columns.{decrypted, pieces}
use Rattle.des_columns.specs.declared.form.ValueForm.{ValueForm}
use Rattle.des_columns.proofs.Pieces.{flat_map-more, length-first_chunks, length-pieces, take-pieces, value-at}
use Rattle.des_columns.proofs.Turns.{in_turn-made}
use Rattle.des_columns.proofs.WrittenColumns.{text-next}
use Rattle.des_columns.proofs.column.Reader.refill.Goals as goal

pub values-preserved : goal.values-preserved
values-preserved g c =
    let form : ValueForm = c.args.self.now.form in
    let k : ℕ = c.values.count in
    let start : ℕ = c.values.bytes in
    let lengths : List ℕ = c.args.lengths.now in
    let bytes : List ℕ = c.args.values.now in
    let vs : List (List ℕ) = pieces lengths bytes in
    let size : ℕ = start + get_or lengths k 0 - start in
    let is : size ≡ get_or lengths k 0 = omega arith in
    record {
      end = omega (arith, c.values-test.true);
      bytes = (text-next lengths bytes k start size c.requires.whole c.values.invariant.bytes c.values-test.true is).1;
      blocks = omega (arith, c.values.invariant.blocks, c.if-more-buffer.false, c.copy_from_slice.auto.self);
      gathered =
          take-put_mid c.values.blocks _ c.values.buffer c.copy_from_slice.new.self _
          (omega (arith, c.copy_from_slice.auto.self)) c.values.invariant.blocks
          ∙ ap₂ ◌++◌ c.values.invariant.gathered (c.copy_from_slice.ensures.after ∙ c.as_chunks.ensures.front
          ∙ ap (λ (part : List ℕ). first_chunks 8 (length part / 8) part) c.part_of.ensures.part
          ∙ ap (blocks_of form) (value-at lengths bytes k start size c.values-test.true c.values.invariant.bytes is))
          ∙ sym (flat_map-more (blocks_of form) vs k (omega (arith, length-pieces lengths bytes, c.values-test.true)));
    }

pub decrypt_values-requires-clause-blocks : goal.decrypt_values-requires-clause-blocks
decrypt_values-requires-clause-blocks g c =
    c.values.invariant.gathered
    ∙ ap (flat_map (blocks_of c.args.self.now.form)) (sym (take-pieces c.args.lengths.now c.args.values.now c.values.count))

pub returns : goal.returns
returns g c =
    let form : ValueForm = c.args.self.now.form in
    let f : List ℕ → List ℕ → List ℕ = g.K.ValueKeys.decryption c.args.self.now.keys in
    let vs : List (List ℕ) = pieces c.args.lengths.now c.args.values.now in
    let rest : List (List ℕ) = drop c.values.blocks c.values.buffer in
    record {
      fit = omega (arith, c.values.invariant.end, length-pieces c.args.lengths.now c.args.values.now);
      within = omega arith;
      in_turn =
          in_turn-made (λ value. length (part_of form value) / 8) (decrypted form f) (take c.values.count vs) _ rest
          (λ value. sym (length-map (blocks_of form value) (f value) ∙ length-first_chunks 8 _ (part_of form value)))
          (ap (λ l. l ++ rest) (c.decrypt_values.ensures
          ∙ ap (flat_map (decrypted form f)) (take-pieces c.args.lengths.now c.args.values.now c.values.count)));
    }
