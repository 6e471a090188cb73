-- The keys of a value more.
use Rattle.std.proofs.Common.{rules, ◌≡◌, ℕ, ◌+◌, ◌-◌, ◌≤◌, ◌<◌, ◌/◌, List, [], ◌++◌, length, take, drop, get_or, replicate, ap, ap₂, sym, ◌∙◌, arith}
use Rattle.std.specs.List.{flat_map}
use Rattle.std.specs.Option.{unwrap_or}
use Rattle.std.proofs.lemmas.List.{length-append, length-drop, length-take-le, take_all}
use Rattle.std.proofs.lemmas.List.Folds.{length-flat_map-take}
use Rattle.std.proofs.lemmas.Slice.{take-put_mid}
use Rattle.std.specs.Simd.Lanes.{zip2}
use Rattle.des.specs.TripleCiphers.{ede3_decryption}
use Rattle.des_columns.specs.Forms.{blocks_of}
use Rattle.des_columns.specs.Columns.{pieces}
use Rattle.des_columns.specs.declared.form.ValueForm.{ValueForm}
use Rattle.des_columns.proofs.KeysOfBlocks.{keys_of, zip2-keys}
use Rattle.des_columns.proofs.Pieces.{flat_map-more, length-blocks, length-pieces, pieces-next}
use Rattle.des_columns.proofs.ValuesByNumber.{key_for}
use Rattle.des_columns.proofs.key_file.KeyFileValueKeys.decrypt_values.Given.{Over}
use Rattle.des_columns.proofs.key_file.KeyFileValueKeys.decrypt_values.Goals.{After-part_of}
use Rattle.des_columns.proofs.key_file.KeyFileValueKeys.decrypt_values.Goals as goal

-- the next value, its blocks, and that their keys fit
next : (g : Over) (c : After-part_of g)
    → let vs = pieces c.args.lengths.now c.args.values.now in
    let value = get_or vs c.values.k [] in
    let count = length c.part_of.result.now / 8 in
    (c.split_at.result.0.now ≡ value)
    × (pieces (drop (c.values.k + 1) c.args.lengths.now) (drop c.min.result c.values.rest.now) ≡ drop (c.values.k + 1) vs)
    × (count ≡ length (blocks_of c.args.form value)) × (c.values.filled + count ≤ 256)
next g c =
    let form : ValueForm = c.args.form in
    let k : ℕ = c.values.k in
    let lengths : List ℕ = c.args.lengths.now in
    let vs : List (List ℕ) = pieces lengths c.args.values.now in
    let both =
    pieces-next lengths c.args.values.now c.values.rest.now k c.min.result c.values-test.true c.min.ensures
    c.values.invariant.rest in
    let same : c.split_at.result.0.now ≡ get_or vs k [] = c.split_at.ensures.front ∙ both.0 in
    let count = length-blocks form c.split_at.result.0.now (get_or vs k []) c.part_of.result.now same c.part_of.ensures.part in
    let bound =
    length-flat_map-take (blocks_of form) vs k []
    (omega (arith, length-pieces lengths c.args.values.now, c.values-test.true)) in (
      same,
      both.1,
      count,
      omega (arith, c.values.invariant.filled, count, bound, c.requires.few, ap length c.requires.blocks),
    )

pub overflow_add-filled : goal.overflow_add-filled
overflow_add-filled g c = omega (arith, (next g (goal.at.overflow_add-filled g c).After-part_of).3)

pub offset_bounds-keys-filled : goal.offset_bounds-keys-filled
offset_bounds-keys-filled g c = omega (arith, (next g (goal.at.offset_bounds-keys-filled g c).After-part_of).3)

pub slice_bounds-keys-end : goal.slice_bounds-keys-end
slice_bounds-keys-end g c =
    let bound : c.values.filled + length c.part_of.result.now / 8 ≤ length c.values.keys =
    omega (arith, (next g (goal.at.slice_bounds-keys-end g c).After-part_of).3) in
    search (rules, bound)

pub values-preserved : goal.values-preserved
values-preserved g c =
    let form : ValueForm = c.args.form in
    let keys = c.args.self.now.keys in
    let k : ℕ = c.values.k in
    let filled : ℕ = c.values.filled in
    let vs : List (List ℕ) = pieces c.args.lengths.now c.args.values.now in
    let inside : k < length vs = omega (arith, length-pieces c.args.lengths.now c.args.values.now, c.values-test.true) in
    let count : ℕ = length c.part_of.result.now / 8 in
    let more = next g (goal.at.values-preserved g c).After-part_of in
    let size : ℕ = filled + count - filled in
    let long : length (take size (drop filled c.values.keys)) ≡ count =
    length-take-le size (drop filled c.values.keys)
    (omega (arith, length-drop filled c.values.keys, more.3)) ∙ omega arith in
    let new : List (List ℕ) = c.fill_with.new.keys in
    let new_long : length new ≡ count = c.fill_with.auto.keys ∙ long in
    let made : new ≡ replicate (length (blocks_of form (get_or vs k []))) (key_for keys (get_or vs k [])) =
    c.fill_with.ensures
    ∙ ap₂ (λ (n : ℕ) (key : List ℕ). replicate n key) (long ∙ more.2)
    (c.unwrap_or-key.ensures ∙ ap (λ key. unwrap_or key (replicate 24 0)) c.key_for.ensures ∙ ap (key_for keys) more.0) in
    record {
      rest = ap (pieces (drop (k + 1) c.args.lengths.now)) c.split_at.ensures.back ∙ more.1;
      filled =
          ap₂ ◌+◌ c.values.invariant.filled more.2
          ∙ sym (length-append (flat_map (blocks_of form) (take k vs)) _)
          ∙ sym (ap length (flat_map-more (blocks_of form) vs k inside));
      keys =
          take-put_mid filled size c.values.keys new (filled + count) (omega (arith, new_long))
          (omega (arith, more.3))
          ∙ ap₂ ◌++◌ c.values.invariant.keys made
          ∙ sym (flat_map-more (λ value. replicate (length (blocks_of form value)) (key_for keys value)) vs k inside);
    }

-- all values are before the index
whole : (lengths bytes : List ℕ) (k : ℕ) → length lengths ≤ k → take k (pieces lengths bytes) ≡ pieces lengths bytes
whole lengths bytes k all = take_all k (pieces lengths bytes) (omega (arith, length-pieces lengths bytes, all))

pub decrypt_each-requires : goal.decrypt_each-requires
decrypt_each-requires g c =
    let is : c.values.filled ≡ length c.args.blocks.now =
    c.values.invariant.filled
    ∙ ap (λ l. length (flat_map (blocks_of c.args.form) l)) (whole c.args.lengths.now c.args.values.now c.values.k c.values-test.false)
    ∙ sym (ap length c.requires.blocks) in
    length-take-le c.values.filled c.values.keys (omega (arith, is, c.requires.few)) ∙ is

pub returns : goal.returns
returns g c =
    let key : List ℕ → List ℕ = key_for c.args.self.now.keys in
    c.decrypt_each.ensures
    ∙ ap₂ (zip2 ede3_decryption) (c.values.invariant.keys ∙ ap (keys_of key (blocks_of c.args.form))
    (whole c.args.lengths.now c.args.values.now c.values.k c.values-test.false)) c.requires.blocks
    ∙ zip2-keys ede3_decryption key (blocks_of c.args.form) (pieces c.args.lengths.now c.args.values.now)
