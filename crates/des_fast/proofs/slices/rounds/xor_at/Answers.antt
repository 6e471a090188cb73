use Rattle.std.proofs.Common.{◌≡◌, ℕ, ◌*◌, ◌<◌, ◌≤◌, IsTrue, true, false, List, Bool, [], ◌∷◌, map, get_or, slice_set, take, add-one, length, nat_lt, sym, ap, ap₂, ◌∙◌, arith}
use Rattle.std.specs.List.{list_all}
use Rattle.std.proofs.lemmas.Bool.{ltb-true}
use Rattle.std.proofs.lemmas.Nat.{mul-le}
use Rattle.std.proofs.lemmas.List.{length-map, length-set, map-set, get_or-map}
use Rattle.std.proofs.lemmas.List.Elements.{All-get_or}
use Rattle.std.proofs.lemmas.List.Sums.{AllPass-from_list_all}
use Rattle.des.specs.Bits.{xor}
use Rattle.des_fast.specs.Slices.{xor_at}
use Rattle.des_fast.proofs.CipherFunctionByGroups.{xor_at-more}
use Rattle.des_fast.proofs.slices.rounds.xor_at.Goals as goal

-- an index is within a half block
index_below : (indexes : List ℕ) (i : ℕ) → i < length indexes → IsTrue (list_all (λ x. nat_lt x 32) indexes)
    → get_or indexes i 0 < 32
index_below indexes i inside each =
    ltb-true _ _ (All-get_or (λ x. nat_lt x 32 ≡ true) indexes i 0 inside
    (AllPass-from_list_all (λ x. nat_lt x 32) indexes each))

-- and its slice is not far from the first
offset-le : (index size : ℕ) → index < 32 → size ≤ 32 → index * size ≤ 32 * 32
offset-le index size below few = mul-le index size 32 32 (omega arith) few

pub loop-i-preserved : goal.loop-i-preserved
loop-i-preserved g c = (
  length-set c.loop-i.half _ c.xor.result ∙ c.loop-i.invariant.0,
  λ b within.
      let read = g.S.Slice.bit b in
      let i : ℕ = c.loop-i.i in
      let index : ℕ = get_or c.args.indexes i 0 in
      let half = c.loop-i.half in
      let changes : List Bool = map read c.args.changes in
      let within_half : index < length half =
      omega (arith, index_below c.args.indexes i (omega arith) c.requires, c.loop-i.invariant.0) in
      let xored : read c.xor.result ≡ xor (get_or (map read half) index false) (get_or changes i false) =
      c.xor.ensures b within ∙ sym (ap₂ xor (get_or-map read half _ _ false within_half)
      (get_or-map read c.args.changes _ _ false (omega arith))) in
      let inside : i < length changes = rw (length-map c.args.changes read) (omega arith) in
      map-set read half index c.xor.result
      ∙ ap (slice_set (map read half) index) xored
      ∙ ap (λ (bits : List Bool). xor_at bits (index ∷ []) (get_or changes i false ∷ []))
      (c.loop-i.invariant.1 b within)
      ∙ sym (xor_at-more (map read c.args.half.now) c.args.indexes changes i (omega arith) inside)
      ∙ ap (λ (k : ℕ). xor_at (map read c.args.half.now) (take k c.args.indexes) (take k changes)) (sym (add-one i)),
)
