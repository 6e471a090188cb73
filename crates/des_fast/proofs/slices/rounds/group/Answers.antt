use Rattle.std.proofs.Common.{◌≡◌, ℕ, ◌+◌, ◌*◌, ◌%◌, ◌<◌, ◌≢◌, List, Bool, false, map, get_or, length, refl, sym, ap, ap₂, ◌∙◌, arith, below_more, get_or-set_same, get_or-set_other}
use Rattle.std.proofs.lemmas.List.{length-map, length-set, map-set, get_or-map}
use Rattle.std.proofs.lemmas.Nat.{mul-le}
use Rattle.des.specs.Bits.{xor}
use Rattle.des.specs.Tables.{permuted_choice_2}
use Rattle.des.specs.Laws.Selections.{length-select}
use Rattle.des_fast.specs.declared.slices.rounds.TheConstants.{PERMUTED_CHOICE_2}
use Rattle.des_fast.specs.RoundKeySlices.{round_key_of}
use Rattle.des_fast.proofs.RotatedHalves.{get_or-round_key_of, place_within}
use Rattle.des_fast.proofs.CipherFunctionByGroups.{group-xor_bits}
use Rattle.des_fast.proofs.slices.rounds.group.Goals as goal

pub overflow_add-rotation : goal.overflow_add-rotation
overflow_add-rotation g c =
    let within = place_within c.args.rotation (6 * c.args.number + c.loop-i.i) 112 c.requires.around
    (omega (arith, c.requires.numbered)) refl in
    record { fits = omega (arith, within) }

pub offset_bounds-key-rotation : goal.offset_bounds-key-rotation
offset_bounds-key-rotation g c =
    let place : ℕ = c.args.rotation + get_or PERMUTED_CHOICE_2 (6 * c.args.number + c.loop-i.i) 0 in
    let within : place < 112 =
    place_within c.args.rotation (6 * c.args.number + c.loop-i.i) 112 c.requires.around
    (omega (arith, c.requires.numbered)) refl in
    record { fits = omega (arith, mul-le place _ 112 32 (omega (arith, within)) g.met.S.Slice.few_bytes) }

pub listed-in-loop-i : goal.listed-in-loop-i
listed-in-loop-i g c =
    place_within c.args.rotation (6 * c.args.number + c.loop-i.i) (length c.args.key.now) c.requires.around
    (omega (arith, c.requires.numbered)) c.told-key

pub bounds-key-rotation : goal.bounds-key-rotation
bounds-key-rotation g c =
    place_within c.args.rotation (6 * c.args.number + c.loop-i.i) 112 c.requires.around
    (omega (arith, c.requires.numbered)) refl

pub loop-i-preserved : goal.loop-i-preserved
loop-i-preserved g c = (
  length-set c.loop-i.group c.loop-i.i c.xor.result ∙ c.loop-i.invariant.0,
  below_more _ _
      (λ k below b within. let other : k ≢ c.loop-i.i = omega arith in
      let read = g.S.Slice.bit b in
      ap (λ (bits : List Bool). get_or bits k false) (map-set read c.loop-i.group c.loop-i.i c.xor.result)
      ∙ get_or-set_other (map read c.loop-i.group) c.loop-i.i k (read c.xor.result) false other
      ∙ c.loop-i.invariant.1 k below b within)
      (λ b within. let inside : c.loop-i.i < length c.loop-i.group = omega arith in
      let read = g.S.Slice.bit b in
      let in_bits : c.loop-i.i < length (map read c.loop-i.group) = rw (length-map c.loop-i.group read) inside in
      let in_half : (4 * c.args.number + c.loop-i.i + 31) % 32 < length c.args.half.now = omega arith in
      let in_key : c.args.rotation + get_or PERMUTED_CHOICE_2 (6 * c.args.number + c.loop-i.i) 0 < length c.args.key.now =
      place_within c.args.rotation (6 * c.args.number + c.loop-i.i) (length c.args.key.now) c.requires.around
      (omega arith) c.told-key in
      ap (λ (bits : List Bool). get_or bits c.loop-i.i false) (map-set read c.loop-i.group c.loop-i.i c.xor.result)
      ∙ get_or-set_same (map read c.loop-i.group) c.loop-i.i (read c.xor.result) false in_bits
      ∙ c.xor.ensures b within
      ∙ sym (ap₂ xor (get_or-map read c.args.half.now _ _ false in_half)
      (get_or-map read c.args.key.now _ _ false in_key))),
)

pub returns : goal.returns
returns g c b within =
    let read = g.S.Slice.bit b in
    let key : List Bool = map read c.args.key.now in
    let size : length key ≡ 112 = length-map c.args.key.now read ∙ c.told-key in
    group-xor_bits c.args.number (map read c.loop-i.group) (map read c.args.half.now) (round_key_of key c.args.rotation)
    c.requires.numbered (length-map c.loop-i.group read ∙ c.loop-i.invariant.0)
    (length-select permuted_choice_2 _)
    (λ k below.
    c.loop-i.invariant.1 k (omega arith) b within
    ∙ ap (xor (get_or (map read c.args.half.now) ((4 * c.args.number + k + 31) % 32) false))
    (sym (get_or-round_key_of key c.args.rotation (6 * c.args.number + k) size c.requires.around
    (omega (arith, c.requires.numbered)))))
