-- The halves C and D as slices, each of which stands twice in a row.
use Rattle.std.proofs.Common.{◌≡◌, ◌≢◌, ℕ, ◌+◌, ◌-◌, ◌*◌, ◌/◌, ◌^◌, ◌<◌, ◌==◌, ◌&&◌, Bool, true, false, List, length, map, nat_lt, get_or, bit_and, refl, ap, sym, ◌∙◌, arith, inl, inr, subst}
use Rattle.std.proofs.Math.ListN.{set}
use Rattle.std.proofs.lemmas.List.{length-map, length-set, get_or-map, ext_get_or, get_or-set_same, get_or-set_other, map-set}
use Rattle.std.proofs.lemmas.Nat.Bits.{shr_and_one}
use Rattle.std.proofs.lemmas.Bool.{cases_eq, and_parts, eqb-true, ltb-true, agree_below_at}
use Rattle.des.specs.Bits.{bit, select}
use Rattle.des.proofs.BitParts.{get_or-bits_of}
use Rattle.des_fast.specs.declared.slices.keys.TheConstants.{HALVES}
use Rattle.des_fast.specs.RoundKeySlices.{positions_twice, place_once}
use Rattle.des_fast.proofs.SliceBits.{bit_in}

-- a bit of a word, shifted to the end
pub bit_in-shifted : (word place : ℕ) → place < 64 → bit_in word place ≡ (bit_and (word / 2 ^ (63 - place)) 1 == 1)
bit_in-shifted word place below =
    get_or-bits_of 64 word place below ∙ ap (λ (k : ℕ). k == 1) (sym (shr_and_one word (63 - place)))

-- bits that are those at some positions, one by one, are the selection of these
pub bits-selection : (bits whole : List Bool) (positions : List ℕ) → length bits ≡ length positions
    → ((i : ℕ) → i < length positions → get_or bits i false ≡ bit whole (get_or positions i 0))
    → bits ≡ select positions whole
unfolding select
bits-selection bits whole positions same each =
    ext_get_or false bits (map (bit whole) positions) (same ∙ sym (length-map positions (bit whole)))
    (λ i below. let inside : i < length positions = omega arith in
    each i inside ∙ sym (get_or-map (bit whole) positions i 0 false inside))

-- the table of the code has a position for each of the 56, and that position stands at its two places
pub record IsPosition (n place : ℕ) : Type 0 where
  pub from : 0 < get_or HALVES n 0
  pub to : get_or HALVES n 0 < 129
  pub first : get_or positions_twice place 0 ≡ get_or HALVES n 0
  pub second : get_or positions_twice (place + 28) 0 ≡ get_or HALVES n 0

pub position-at : (n half : ℕ) → n < 56 → n / 28 ≡ half → IsPosition n (n + 28 * half)
position-at n half below is =
    let position : ℕ → ℕ = λ k. get_or HALVES k 0 in
    let place : ℕ → ℕ = λ k. k + 28 * (k / 28) in
    let bounds : (nat_lt 0 (position n) && nat_lt (position n) 129) ≡ true =
    agree_below_at (λ k. nat_lt 0 (position k) && nat_lt (position k) 129) (λ k. true) 56 n refl below in
    let places : (get_or positions_twice (place n) 0 == position n && (get_or positions_twice (place n + 28) 0 == position n))
    ≡ true =
    agree_below_at (λ k.
    get_or positions_twice (place k) 0 == position k && (get_or positions_twice (place k + 28) 0 == position k))
    (λ k. true) 56 n refl below in
    let bound = and_parts _ _ bounds in
    let at = and_parts _ _ places in
    subst (λ (k : ℕ). IsPosition n (n + 28 * k)) is (record {
      from = ltb-true _ _ bound.0;
      to = ltb-true _ _ bound.1;
      first = eqb-true _ _ at.0;
      second = eqb-true _ _ at.1;
    })

-- an element written at two places
written_twice : {X : Type 0} (P : ℕ → X → Type 0) (xs : List X) (p q : ℕ) (x d : X) → p < length xs → q < length xs
    → P p x → P q x → (m : ℕ) → (m ≢ p → m ≢ q → P m (get_or xs m d)) → P m (get_or (set (set xs p x) q x) m d)
written_twice P xs p q x d first second at_first at_second m other =
    let inside : q < length (set xs p x) = omega (arith, length-set xs p x) in
    elim (cases_eq m q) [
      | inl same ↦
          let at : get_or (set (set xs p x) q x) q d ≡ x = get_or-set_same (set xs p x) q x d inside in
          subst (λ (k : ℕ). P k (get_or (set (set xs p x) q x) k d)) (sym same) (subst (P q) (sym at) at_second)
      | inr not_second ↦
          let kept : get_or (set (set xs p x) q x) m d ≡ get_or (set xs p x) m d =
          get_or-set_other (set xs p x) q m x d not_second in
          subst (P m) (sym kept) (elim (cases_eq m p) [
            | inl same ↦
                let at : get_or (set xs p x) p d ≡ x = get_or-set_same xs p x d first in
                subst (λ (k : ℕ). P k (get_or (set xs p x) k d)) (sym same) (subst (P p) (sym at) at_first)
            | inr not_first ↦ subst (P m) (sym (get_or-set_other xs p m x d not_first)) (other not_first not_second)
          ])
    ]

pub bits_written_twice : {X : Type 0} (bit : X → Bool) (P : ℕ → Bool → Type 0) (xs : List X) (p q : ℕ) (x : X)
    → p < length xs → q < length xs → P p (bit x) → P q (bit x) → (m : ℕ)
    → (m ≢ p → m ≢ q → P m (get_or (map bit xs) m false)) → P m (get_or (map bit (set (set xs p x) q x)) m false)
bits_written_twice bit P xs p q x first second at_first at_second m other =
    let in_first : p < length (map bit xs) = rw (length-map xs bit) first in
    let in_second : q < length (map bit xs) = rw (length-map xs bit) second in
    let mapped : map bit (set (set xs p x) q x) ≡ set (set (map bit xs) p (bit x)) q (bit x) =
    map-set bit (set xs p x) q x ∙ ap (λ (bits : List Bool). set bits q (bit x)) (map-set bit xs p x) in
    subst (λ (bits : List Bool). P m (get_or bits m false)) (sym mapped)
    (written_twice P (map bit xs) p q (bit x) false in_first in_second at_first at_second m other)

-- the other places of the bits up to n are those of the bits below n
pub place_once-below : (m n half : ℕ) → m < 112 → n / 28 ≡ half → place_once m < n + 1 → m ≢ n + 28 * half → m ≢ n + 28 * half + 28
    → place_once m < n
place_once-below m n half below is done not_first not_second = omega arith
