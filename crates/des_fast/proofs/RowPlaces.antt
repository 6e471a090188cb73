-- The places of the rows of blocks in two halves: the final permutation takes each from there.
use Rattle.std.proofs.Common.{◌≡◌, ℕ, ◌+◌, ◌-◌, ◌*◌, ◌/◌, ◌%◌, ◌<◌, ◌≢◌, ◌==◌, Bool, false, List, ◌++◌, length, map, get_or, refl, ap, sym, ◌∙◌, arith, inl, inr}
use Rattle.std.proofs.Math.ListN.{set}
use Rattle.std.proofs.lemmas.Bool.{cases_eq, eqb-true}
use Rattle.std.proofs.lemmas.List.{get_or-map, ext_get_or, length-map, length-set, length-append, map-set, get_or-set_same, get_or-set_other, get_or_append_left, get_or-append_right, set-append_left, set-append_right}
use Rattle.des.specs.Bits.{bit, select}
use Rattle.des.specs.Tables.{final_permutation}
use Rattle.des.specs.Laws.Selections.{length-select}
use Rattle.des_fast.specs.Transposition.{bits_of_halves}
use Rattle.des_fast.proofs.RangeTests.{at_range}

-- of row m of 64, in the left half and then the right one
place_of_row : ℕ → ℕ
place_of_row m = 8 * (m % 8 / 2) + 7 - m / 8 + 32 * (1 - m % 2)

-- a bit under the final permutation is the one at that place
bit-at : (bits : List Bool) (m : ℕ) → m < 64
    → get_or (select final_permutation bits) m false ≡ get_or bits (place_of_row m) false
unfolding select place_of_row
bit-at bits m below =
    get_or-map (bit bits) final_permutation m 0 false below
    ∙ ap (bit bits)
    (eqb-true _ _ (at_range (λ k. get_or final_permutation k 0 == place_of_row k + 1) 64 m refl below))
    ∙ ap (λ (k : ℕ). get_or bits k false) (omega arith)

-- so a bit that is written there is written
selection-set : (bits : List Bool) (m : ℕ) (value : Bool) → length bits ≡ 64 → m < 64
    → select final_permutation (set bits (place_of_row m) value) ≡ set (select final_permutation bits) m value
unfolding place_of_row
selection-set bits m value size inside =
    let old : List Bool = select final_permutation bits in
    let new : List Bool = set bits (place_of_row m) value in
    let width : length old ≡ 64 = length-select final_permutation bits in
    ext_get_or false (select final_permutation new) (set old m value)
    (length-select final_permutation new ∙ sym (length-set old m value ∙ width))
    (λ k within.
    let below : k < 64 = omega (arith, length-select final_permutation new) in
    bit-at new k below
    ∙ elim (cases_eq k m) [
      | inl same ↦
          ap (λ (i : ℕ). get_or new (place_of_row i) false) same
          ∙ get_or-set_same bits (place_of_row m) value false (omega arith)
          ∙ sym (ap (λ (i : ℕ). get_or (set old m value) i false) same
          ∙ get_or-set_same old m value false (omega arith))
      | inr other ↦
          get_or-set_other bits (place_of_row m) (place_of_row k) value false (λ q. other (omega arith))
          ∙ sym (get_or-set_other old m k value false other ∙ bit-at bits k below)
    ])

module _ {A : Type 0} (read : A → Bool) (left right : List A) (byte n : ℕ) (of_eight : byte < 8) (of_a_byte : n < 8)
    (first : length left ≡ 32) (second : length right ≡ 32) where
  -- a row of an even number is in the right half
  pub row-right : (d : A) → n % 2 ≡ 0
      → read (get_or right (8 * (n / 2) + 7 - byte) d) ≡ get_or (bits_of_halves read left right) (8 * byte + n) false
  unfolding place_of_row
  row-right d even =
      let place : ℕ = 8 * (n / 2) + 7 - byte in
      sym (bit-at (map read left ++ map read right) (8 * byte + n) (omega arith)
      ∙ get_or-append_right (map read left) (map read right) 32 (place_of_row (8 * byte + n)) false
      (length-map left read ∙ first) (omega arith)
      ∙ ap (λ (k : ℕ). get_or (map read right) k false) (omega arith)
      ∙ get_or-map read right place d false (omega arith))

  -- and one of an odd number in the left half
  pub row-left : (d : A) → n % 2 ≢ 0
      → read (get_or left (8 * (n / 2) + 7 - byte) d) ≡ get_or (bits_of_halves read left right) (8 * byte + n) false
  unfolding place_of_row
  row-left d odd =
      let place : ℕ = 8 * (n / 2) + 7 - byte in
      sym (bit-at (map read left ++ map read right) (8 * byte + n) (omega arith)
      ∙ get_or_append_left (map read left) (map read right) false (place_of_row (8 * byte + n))
      (omega (arith, length-map left read))
      ∙ ap (λ (k : ℕ). get_or (map read left) k false) (omega arith)
      ∙ get_or-map read left place d false (omega arith))

  both : List Bool
  both = map read left ++ map read right

  size : length both ≡ 64
  unfolding both
  size = omega (arith, length-append (map read left) (map read right), length-map left read, length-map right read)

  pub set-right : (row : A) → n % 2 ≡ 0
      → bits_of_halves read left (set right (8 * (n / 2) + 7 - byte) row)
      ≡ set (bits_of_halves read left right) (8 * byte + n) (read row)
  unfolding place_of_row both
  set-right row even =
      let place : ℕ = place_of_row (8 * byte + n) in
      ap (select final_permutation)
      (ap (λ bits. map read left ++ bits) (map-set read right (8 * (n / 2) + 7 - byte) row)
      ∙ ap (λ (k : ℕ). map read left ++ set (map read right) k (read row)) (omega arith)
      ∙ sym (set-append_right (map read left) (map read right) 32 place (read row) (length-map left read ∙ first)
      (omega arith)))
      ∙ selection-set both (8 * byte + n) (read row) size (omega arith)

  pub set-left : (row : A) → n % 2 ≢ 0
      → bits_of_halves read (set left (8 * (n / 2) + 7 - byte) row) right
      ≡ set (bits_of_halves read left right) (8 * byte + n) (read row)
  unfolding place_of_row both
  set-left row odd =
      let place : ℕ = place_of_row (8 * byte + n) in
      ap (select final_permutation)
      (ap (λ bits. bits ++ map read right) (map-set read left (8 * (n / 2) + 7 - byte) row)
      ∙ ap (λ (k : ℕ). set (map read left) k (read row) ++ map read right) (omega arith)
      ∙ sym (set-append_left (map read left) (map read right) place (read row) (omega (arith, length-map left read))))
      ∙ selection-set both (8 * byte + n) (read row) size (omega arith)
