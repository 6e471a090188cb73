-- A group more.
use Rattle.std.proofs.Common.{◌≡◌, ℕ, ◌+◌, ◌-◌, ◌*◌, ◌/◌, ◌<◌, ◌≤◌, ◌++◌, List, length, take, drop, refl, ap, ap₂, sym, ◌∙◌, arith}
use Rattle.std.proofs.lemmas.List.{length-take-le}
use Rattle.std.proofs.lemmas.Slice.{drop-put_mid, take-put_mid}
use Rattle.base64.specs.Engines.{standard}
use Rattle.base64.specs.GeneralPurpose.{encode_of}
use Rattle.base64.proofs.EngineFacts.{encode_of-nil}
use Rattle.des_columns.proofs.Base64Groups.{group-more, group-whole, length-encoded, no-failure}
use Rattle.des_columns.proofs.DecryptedBlocks.{drop-further}
use Rattle.des_columns.proofs.base64_in_place.decode.Goals.{After-copy_from_slice, else-count-lt3-via-then-count-lt3+else-group-groups, else-count-lt3-via-else-count-lt3}
use Rattle.des_columns.proofs.base64_in_place.decode.Goals as goal

-- the group is as it was
same : (c : After-copy_from_slice) → c.copy_from_slice.new.self ≡ take 4 (drop (4 * c.groups.group) c.args.characters.now)
same c =
    let four : 4 * c.groups.group + 4 - 4 * c.groups.group ≡ 4 = omega arith in
    c.copy_from_slice.ensures.after ∙ ap₂ take four c.groups.invariant.rest

pub returns-then-characters-ne0-clause-none : goal.returns-then-characters-ne0-clause-none
returns-then-characters-ne0-clause-none c = λ _ bytes encodes.
    absurd (omega (arith, c.if-characters-ne0.true, ap length encodes.1, length-encoded bytes))

pub groups-init : goal.groups-init
groups-init c = record {
  long = refl;
  size = omega arith;
  full = λ _. refl;
  encoded = encode_of-nil standard;
  rest = refl;
}

pub returns-in_default-clause-none : goal.returns-in_default-clause-none
returns-in_default-clause-none c = λ _ bytes encodes.
    no-failure bytes c.args.characters.now c.copy_from_slice.new.self c.in_default.field-0 c.groups.group encodes
    (omega (arith, c.groups-test.true))
    (same (goal.at.returns-in_default-clause-none c).After-copy_from_slice) c.in_default.ensures.err

pub returns-then-group-groups-clause-none : goal.returns-then-group-groups-clause-none
returns-then-group-groups-clause-none c = λ _ bytes encodes.
    let output : List ℕ = c.decode_slice_unchecked.new.output in
    let three : length (take c.in-Ok.count output) ≡ 3 =
    group-whole bytes c.args.characters.now c.copy_from_slice.new.self _ c.groups.group encodes
    (omega (arith, c.if-group-groups.true))
    (same (goal.at.returns-then-group-groups-clause-none c).After-copy_from_slice) c.in-Ok.ensures.ok.0 in
    let long : length (take c.in-Ok.count output) ≡ c.in-Ok.count =
    length-take-le c.in-Ok.count output (omega (arith, c.in-Ok.ensures.ok.2, c.decode_slice_unchecked.auto.output)) in
    absurd (omega (arith, three, long, c.if-count-lt3.true))

pub groups-preserved : goal.groups-preserved
groups-preserved c =
    let g : ℕ = c.groups.group in
    let size : ℕ = c.groups.size in
    let count : ℕ = c.in-Ok.count in
    let characters : List ℕ = c.groups.characters in
    let initial : List ℕ = c.args.characters.now in
    let group : List ℕ = c.copy_from_slice.new.self in
    let output : List ℕ = c.decode_slice_unchecked.new.output in
    let new : List ℕ = c.copy_from_slice-in-groups.new.self in
    let three : g + 1 < length initial / 4 → count ≡ 3 =
    elim c.else-count-lt3.branch [
      | else-count-lt3-via-then-count-lt3+else-group-groups w ↦ λ more. absurd (omega (arith, w.if-group-groups.false, more))
      | else-count-lt3-via-else-count-lt3 w ↦ λ more. omega (arith, w.if-count-lt3.false, c.in-Ok.ensures.ok.2)
    ] in
    let few : count ≤ 3 = omega (arith, c.in-Ok.ensures.ok.2) in
    let full : size ≡ 3 * g = c.groups.invariant.full c.groups-test.true in
    let inside : size ≤ length characters = omega (arith, full, c.groups.invariant.long, c.groups-test.true) in
    let inside_all : size + count ≤ length characters =
    omega (arith, full, few, c.groups.invariant.long, c.groups-test.true) in
    let next : 4 * (g + 1) ≡ 4 * g + 4 = omega arith in
    let written : List ℕ = take count output in
    let long : length new ≡ count =
    ap length c.copy_from_slice-in-groups.ensures.after
    ∙ length-take-le count output (omega (arith, few, c.decode_slice_unchecked.auto.output)) in
    record {
      long = omega (arith, c.groups.invariant.long, inside_all, long);
      size = omega (arith, c.groups.invariant.size, few);
      full = λ more. omega (arith, full, three more);
      encoded =
          ap (encode_of standard)
          (take-put_mid size _ characters new (size + count) (omega (arith, long)) inside
          ∙ ap (λ l. take size characters ++ l) c.copy_from_slice-in-groups.ensures.after)
          ∙ group-more initial (take size characters) written group g c.groups.invariant.encoded
          (omega (arith, length-take-le size characters inside, full))
          (same (goal.at.groups-preserved c).After-copy_from_slice) c.are_bytes.ensures c.in-Ok.ensures.ok.0
          ∙ ap (λ n. take n initial) (sym next);
      rest =
          drop-put_mid size _ characters new (4 * (g + 1)) (omega (arith, full, few)) inside (omega (arith, long))
          ∙ drop-further (4 * (g + 1)) (4 * g) characters initial (omega arith) c.groups.invariant.rest;
    }
