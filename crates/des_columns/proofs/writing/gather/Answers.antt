-- A text more.
use Rattle.std.proofs.Common.{◌≡◌, ℕ, ◌+◌, ◌-◌, ◌/◌, ◌<◌, ◌≤◌, List, [], ◌∷◌, ◌++◌, length, take, drop, get_or, sum, ap, ap₂, sym, ◌∙◌, arith}
use Rattle.std.proofs.lemmas.List.{length-drop, length-set, length-take-le, map_push, take_more, take_more_set}
use Rattle.std.proofs.lemmas.List.Sums.{sum-map, sum_by_more, sum_by_push}
use Rattle.std.proofs.lemmas.Slice.{take-put_mid}
use Rattle.des_columns.specs.Columns.{pieces}
use Rattle.des_columns.specs.EncryptedBytes.{joined}
use Rattle.des_columns.specs.Writings.{padded_by, size_in_blocks, value_size}
use Rattle.des_columns.specs.declared.form.ValueForm.{ValueForm}
use Rattle.des_columns.proofs.Pieces.{length-pieces, value-at}
use Rattle.des_columns.proofs.Turns.{in_turn-more}
use Rattle.des_columns.proofs.WrittenColumns.{text-next}
use Rattle.des_columns.proofs.writing.gather.Goals as goal

pub texts-preserved : goal.texts-preserved
texts-preserved c =
    let form : ValueForm = c.args.form in
    let k : ℕ = c.texts.count in
    let from : ℕ = c.texts.bytes in
    let lengths : List ℕ = c.args.lengths.now in
    let bytes : List ℕ = c.args.texts.now in
    let vs : List (List ℕ) = pieces lengths bytes in
    let below : k < length lengths = c.texts-test.true in
    let n : ℕ = get_or lengths k 0 in
    let text : List ℕ = take (from + n - from) (drop from bytes) in
    let at = text-next lengths bytes k from (from + n - from) c.requires.whole c.texts.invariant.bytes below (omega arith) in
    let size : ℕ = c.value_size-value_size.result / 8 in
    let sized : size ≡ size_in_blocks form text = ap (λ m. m / 8) c.value_size-value_size.ensures in
    let blocks : ℕ = c.texts.blocks in
    let new : List (List ℕ) = c.write_blocks.new.blocks in
    let capacity : blocks + size ≤ length c.texts.buffer = omega (arith, c.if-size-capacity.false, c.min-capacity.ensures, c.texts.invariant.blocks) in
    let long : length new ≡ size =
    c.write_blocks.auto.blocks
    ∙ length-take-le (blocks + size - blocks) (drop blocks c.texts.buffer) (omega (arith, length-drop blocks c.texts.buffer, capacity))
    ∙ omega arith in
    let more : take (k + 1) vs ≡ take k vs ++ text ∷ [] =
    take_more vs k [] (omega (arith, length-pieces lengths bytes, below))
    ∙ ap (λ value. take k vs ++ value ∷ []) (sym (value-at lengths bytes k from (from + n - from) below c.texts.invariant.bytes (omega arith))) in
    record {
      end = omega (arith, below);
      count = omega (arith, c.if-count-sizes.true, length-set c.texts.sizes k size);
      bytes = at.1;
      blocks = omega (arith, capacity, long);
      span =
          ap₂ ◌+◌ c.texts.invariant.span (c.value_size-value_size.ensures ∙ ap (value_size form) at.0)
          ∙ sym (sum_by_more (value_size form) lengths k 0 below);
      sizes = rw (take_more_set c.texts.sizes k size c.if-count-sizes.true, more, c.texts.invariant.sizes, sized)
          (sym (map_push (size_in_blocks form) (take k vs) text));
      whole = rw (take_more_set c.texts.sizes k size c.if-count-sizes.true, sum_by_push (λ m. m) (take k c.texts.sizes) size)
          (ap (λ m. m + size) c.texts.invariant.whole);
      padded =
          rw (
            more,
            take-put_mid blocks (blocks + size - blocks) c.texts.buffer new (blocks + size) (omega (arith, long))
                c.texts.invariant.blocks,
          ) (in_turn-more (size_in_blocks form) (λ text blocks. joined blocks ≡ padded_by form text) (take k vs) text
          (take blocks c.texts.buffer) new
          (length-take-le blocks c.texts.buffer c.texts.invariant.blocks ∙ c.texts.invariant.whole ∙ ap sum c.texts.invariant.sizes
          ∙ sum-map (size_in_blocks form) (take k vs))
          c.texts.invariant.padded (long ∙ sized) c.write_blocks.ensures);
    }
