-- A group more.
use Rattle.std.proofs.Common.{◌≡◌, ◌≤◌, ◌+◌, ◌-◌, ◌*◌, ◌/◌, ◌++◌, min, ℕ, List, [], ◌∷◌, length, take, drop, Ok, Result, refl, ap, ap₂, sym, ◌∙◌, arith, take-add}
use Rattle.std.specs.Result.{OnOk}
use Rattle.std.proofs.lemmas.List.{append-nil, drop-drop, drop_all, length-drop, length-take-le, take_at, take_min}
use Rattle.std.proofs.lemmas.Slice.{drop-put_mid, take-put_mid}
use Rattle.base64.specs.Engines.{standard}
use Rattle.base64.specs.GeneralPurpose.{IsEncodedOver, encode_of, encoded_size_of}
use Rattle.base64.proofs.EngineFacts.{encode_of-append, encode_of-nil}
use Rattle.des_columns.proofs.DecryptedBlocks.{drop-further}
use Rattle.des_columns.proofs.base64_in_place.encode.Goals as goal

-- one to three bytes are encoded as four characters
encoded-group : {E : Type 0} (part given output old : List ℕ) (count : ℕ) (result : Result ℕ E) → given ≡ part
    → length part ≡ count → 1 ≤ count → count ≤ 3 → length old ≡ 4
    → (encoded_size_of standard (length given) ≤ length old → result ≡ Ok (encoded_size_of standard (length given)))
    → OnOk result (IsEncodedOver standard given old output) → output ≡ encode_of standard part
encoded-group part given output old count result is long some few four fits written =
    let size : encoded_size_of standard (length given) ≡ 4 = omega (arith, ap length is, long, some, few) in
    let is_encoded : IsEncodedOver standard given old output = rw (fits (omega (arith, size, four))) at written in
    is_encoded
    ∙ ap₂ ◌++◌ (ap (encode_of standard) is)
    (drop_all (encoded_size_of standard (length given)) old (omega (arith, size, four)))
    ∙ append-nil (encode_of standard part)

pub groups-init : goal.groups-init
groups-init c = record {
  long = refl;
  front = sym (encode_of-nil standard);
  rest = refl;
}

pub groups-preserved : goal.groups-preserved
groups-preserved c =
    let g : ℕ = c.groups.group in
    let start : ℕ = c.args.start in
    let from : ℕ = start + 3 * g in
    let count : ℕ = c.min-count.result in
    let initial : List ℕ = c.args.place.now in
    let place : List ℕ = c.groups.place in
    let bytes : List ℕ = drop start initial in
    let new : List ℕ = c.encode_slice.new.output in
    let part : List ℕ = c.copy_from_slice.new.self in
    let size : length bytes ≡ length initial - start = length-drop start initial in
    let within : g + 1 ≤ length initial / 4 = omega (arith, c.groups-test.true, c.groups.invariant.long) in
    let some : 3 * g + 1 ≤ length bytes = omega (arith, within, size, c.requires.size) in
    let least : count ≡ min 3 (length (drop from initial)) =
    omega (arith, c.min-count.ensures, length-drop from initial, c.groups.invariant.long) in
    let few : count ≤ 3 = omega (arith, c.min-count.ensures) in
    let long : length part ≡ count = c.copy_from_slice.ensures.len ∙ length-take-le count (0 ∷ 0 ∷ 0 ∷ []) few in
    let inside : 4 * g + 4 ≤ length place = omega (arith, within, c.groups.invariant.long) in
    let four : length (take (4 * g + 4 - 4 * g) (drop (4 * g) place)) ≡ 4 =
    length-take-le (4 * g + 4 - 4 * g) (drop (4 * g) place) (omega (arith, length-drop (4 * g) place, inside)) ∙ omega arith in
    let as_long : length new ≡ 4 = c.encode_slice.auto.output ∙ four in
    let is : from + count - from ≡ count = omega arith in
    let written : new ≡ encode_of standard part =
    encoded-group part _ new _ count c.encode_slice.result (take_at part (drop count (0 ∷ 0 ∷ 0 ∷ [])) count long) long
    (omega (arith, c.min-count.ensures, some, size, c.groups.invariant.long)) few four c.encode_slice.ensures.fits
    c.encode_slice.ensures.written in
    let group : part ≡ take 3 (drop (3 * g) bytes) =
    c.copy_from_slice.ensures.after ∙ ap₂ take (is ∙ least) c.groups.invariant.rest ∙ take_min 3 (drop from initial)
    ∙ ap (take 3) (sym (drop-drop (3 * g) start initial)) in
    let next : 3 * g + 3 ≡ 3 * (g + 1) = omega arith in
    record {
      long = omega (arith, c.groups.invariant.long, inside, c.encode_slice.auto.output, four);
      front =
          take-put_mid (4 * g) (4 * g + 4 - 4 * g) place new (4 * (g + 1)) (omega (arith, as_long)) (omega (arith, inside))
          ∙ ap₂ ◌++◌ c.groups.invariant.front (written ∙ ap (encode_of standard) group)
          ∙ sym (encode_of-append standard (take (3 * g) bytes) (take 3 (drop (3 * g) bytes))
          (omega (arith, length-take-le (3 * g) bytes (omega (arith, some)))))
          ∙ ap (encode_of standard) (sym (take-add (3 * g) 3 bytes) ∙ ap (λ n. take n bytes) next);
      rest =
          drop-put_mid (4 * g) (4 * g + 4 - 4 * g) place new (start + 3 * (g + 1))
          (omega (arith, within, c.requires.size, c.requires.start)) (omega (arith, inside)) (omega (arith, as_long))
          ∙ drop-further (start + 3 * (g + 1)) from place initial (omega arith) c.groups.invariant.rest;
    }
