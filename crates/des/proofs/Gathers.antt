-- A product of a masked word of which some bits are kept. In these bits it is the xor of the word shifted by each place
-- of the factor, also where partial products meet and carry: that is a test of all words under the mask. So it is linear.
use Rattle.std.proofs.Common.{◌≡◌, ℕ, zero, suc, ◌+◌, ◌*◌, ◌%◌, ◌^◌, ◌==◌, ◌&&◌, nat_le, Bool, true, false, List, [], ◌∷◌, bit_and, bit_xor, refl, ap, sym, subst, arith, inl, inr, one-add}
use Rattle.std.specs.Int.{bit_at}
use Rattle.std.proofs.lemmas.Nat.{and_le_r, mod-pow-add}
use Rattle.std.proofs.lemmas.Nat.Bits.{bit_at-lt, bit_at_and}
use Rattle.std.proofs.lemmas.Bool.{cases_lt, and_parts, eqb-true, leb-true}
use Rattle.std.proofs.Math.Path.{fun_ext}
use Rattle.des.specs.TermForms.{gathered}
use Rattle.des.proofs.LinearWords.{IsLinear, IsLinear-mask, IsLinear-shl, IsLinear-xor}
use Rattle.des.proofs.LinearUnder.{IsLinearUnder, IsLinearUnder-mask, and-same}

-- ---- tests of all words under a mask

-- whether the test is true of each word that is `word` and some of the mask's lowest n bits
abbrev at_each : (ℕ → Bool) → ℕ → ℕ → ℕ → Bool
at_each test mask zero word = test word
at_each test mask (suc n) word =
    at_each test mask n word && elim (bit_at mask n == 1) [ true ↦ at_each test mask n (word + 2 ^ n) | false ↦ true ]

-- it is true of `word` and the lowest n bits of a number under the mask then
at_each-word : (test : ℕ → Bool) (mask n word y : ℕ) → bit_and y mask ≡ y → at_each test mask n word ≡ true
    → test (word + y % 2 ^ n) ≡ true
at_each-word test mask zero word y under each =
    let none : word + y % 1 ≡ word = omega arith in
    rw none each
at_each-word test mask (suc n) word y under each =
    elim (cases_lt (bit_at y n) 1) [
      | inl low ↦
          let clear : bit_at y n ≡ 0 = omega arith in
          let same : word + y % 2 ^ suc n ≡ word + y % 2 ^ n =
          rw (← one-add n, mod-pow-add y 1 n, clear) (omega arith) in
          rw same (at_each-word test mask n word y under (and_parts _ _ each).0)
      | inr high ↦
          let set : bit_at y n ≡ 1 = omega (arith, bit_at-lt y n) in
          let in_mask : bit_at mask n ≡ 1 =
          omega (arith, bit_at-lt mask n, simp bit_at_and at (ap (λ z. bit_at z n) under)) in
          let same : word + y % 2 ^ suc n ≡ word + 2 ^ n + y % 2 ^ n =
          rw (← one-add n, mod-pow-add y 1 n, set) (omega arith) in
          let later : elim (bit_at mask n == 1) [ true ↦ at_each test mask n (word + 2 ^ n) | false ↦ true ] ≡ true =
          (and_parts _ _ each).1 in
          rw same (at_each-word test mask n (word + 2 ^ n) y under (rw in_mask at later))
    ]

-- ---- products without carries

-- the places of the ones among a number's lowest n bits
abbrev ones_below : ℕ → ℕ → List ℕ
ones_below zero number = []
ones_below (suc n) number =
    elim (bit_at number n == 1) [ true ↦ n ∷ ones_below n number | false ↦ ones_below n number ]

-- a word shifted to the left by each of these numbers of places, joined by xor
abbrev shifted_by : List ℕ → ℕ → ℕ
shifted_by [] word = 0
shifted_by (places ∷ more) word = bit_xor (word * 2 ^ places % 2 ^ 64) (shifted_by more word)

-- a linear map, so shifted, is linear
IsLinear-shifted_by : {f : ℕ → ℕ} → (shifts : List ℕ) → IsLinear f → IsLinear (λ x. shifted_by shifts (f x))
IsLinear-shifted_by [] map = record { sums = λ a b. refl }
IsLinear-shifted_by (places ∷ more) map = IsLinear-xor (IsLinear-shl places map) (IsLinear-shifted_by more map)

-- whether the kept bits of the product of a word and a factor are those of the word so shifted
abbrev is_carryless : List ℕ → ℕ → ℕ → ℕ → Bool
is_carryless shifts factor kept word = bit_and (word * factor % 2 ^ 64) kept == bit_and (shifted_by shifts word) kept

-- of the product of the bits under a mask, those that are kept
pub IsLinearUnder-gathered : {whole : ℕ} → {f : ℕ → ℕ} → (mask factor kept : ℕ)
    → (nat_le mask 0xffffffffffffffff && at_each (is_carryless (ones_below 64 factor) factor kept) mask 64 0) ≡ true
    → IsLinearUnder whole f → IsLinearUnder kept (λ x. gathered (f x) mask factor kept)
IsLinearUnder-gathered {whole} {f} mask factor kept test map =
    let shifts : List ℕ = ones_below 64 factor in
    let same : (x : ℕ) → bit_and (shifted_by shifts (bit_and (f x) mask)) kept ≡ gathered (f x) mask factor kept = λ x.
    let word : ℕ = bit_and (f x) mask in
    let whole_word : 0 + word % 2 ^ 64 ≡ word =
    omega (arith, and_le_r (f x) mask, leb-true mask 0xffffffffffffffff (and_parts _ _ test).0) in
    let here = at_each-word (is_carryless shifts factor kept) mask 64 0 word (and-same (f x) mask) (and_parts _ _ test).1 in
    sym (eqb-true _ _ (rw whole_word at here)) in
    subst (IsLinearUnder kept) (fun_ext same)
    (IsLinearUnder-mask kept (IsLinear-shifted_by shifts (IsLinear-mask mask map.linear)))
