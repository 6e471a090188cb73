-- Linear maps of words, which take the xor of two words to the xor of their images: masks, shifts and what is made of
-- them. Such a map selects bits by a list of positions if it does so for the words with one bit.
use Rattle.std.proofs.Common.{◌≡◌, ℕ, zero, suc, ◌-◌, ◌*◌, ◌/◌, ◌%◌, ◌^◌, ◌<◌, Bool, false, List, [], ◌∷◌, ◌++◌, map, length, get_or, bit_and, bit_xor, refl, ap, ap₂, sym, ◌∙◌, arith, add-zero, one-mul, pow_pos, pow-suc, inl, inr}
use Rattle.std.specs.Int.{bit_at}
use Rattle.std.specs.Int.Bits.{xor_shifted}
use Rattle.std.proofs.lemmas.Nat.{xor_shr, xor_mod, xor_block}
use Rattle.std.proofs.lemmas.Nat.Bits.{same_from_bits, bit_at-zero, bit_at_and, bit_at_xor}
use Rattle.std.proofs.lemmas.Bool.{cases_lt}
use Rattle.des.specs.Bits.{bits_of_word, zeros, select, xor, xor_bits}
use Rattle.des.specs.Laws.BitLists.{length-bits_of}
use Rattle.des.specs.Laws.Selections.{length-select}
use Rattle.des.proofs.BitParts.{bits_of-xor}

-- ---- linear maps

-- the map takes the xor of two numbers to the xor of their images
pub record IsLinear (f : ℕ → ℕ) : Type 0 where
  pub sums : (a b : ℕ) → f (bit_xor a b) ≡ bit_xor (f a) (f b)

-- the map that changes nothing is linear
pub IsLinear-id : IsLinear (λ x. x)
IsLinear-id = record { sums = λ a b. refl }

-- one linear map after another is linear
pub IsLinear-then : {f g : ℕ → ℕ} → IsLinear f → IsLinear g → IsLinear (λ x. g (f x))
IsLinear-then {f} {g} first second = record { sums = λ a b. ap g (first.sums a b) ∙ second.sums (f a) (f b) }

-- a mask of a xor is the xor of the masked
pub and-xor : (a b m : ℕ) → bit_and (bit_xor a b) m ≡ bit_xor (bit_and a m) (bit_and b m)
and-xor a b m =
    same_from_bits (bit_and (bit_xor a b) m) (bit_xor (bit_and a m) (bit_and b m))
    (λ i. simp (bit_at_and, bit_at_xor) (omega arith))

-- a linear map, masked, is linear
pub IsLinear-mask : {f : ℕ → ℕ} → (m : ℕ) → IsLinear f → IsLinear (λ x. bit_and (f x) m)
IsLinear-mask m linear = IsLinear-then {g = λ x. bit_and x m} linear (record { sums = λ a b. and-xor a b m })

-- a linear map, shifted to the right, is linear
pub IsLinear-shr : {f : ℕ → ℕ} → (k : ℕ) → IsLinear f → IsLinear (λ x. f x / 2 ^ k)
IsLinear-shr k linear = IsLinear-then {g = λ x. x / 2 ^ k} linear (record { sums = λ a b. xor_shr a b k })

-- a xor shifted to the left is the xor of the shifted
xor-shl : (a b k : ℕ) → bit_xor a b * 2 ^ k ≡ bit_xor (a * 2 ^ k) (b * 2 ^ k)
xor-shl a b k = sym (simp add-zero at (xor_block k a b 0 0 (pow_pos k) (pow_pos k)))

-- a linear map, shifted to the left in a word, is linear
pub IsLinear-shl : {f : ℕ → ℕ} → (k : ℕ) → IsLinear f → IsLinear (λ x. f x * 2 ^ k % 2 ^ 64)
IsLinear-shl k linear =
    IsLinear-then {g = λ x. x * 2 ^ k % 2 ^ 64} linear
    (record { sums = λ a b. ap (λ y. y % 2 ^ 64) (xor-shl a b k) ∙ xor_mod (a * 2 ^ k) (b * 2 ^ k) 64 })

-- the xor of two linear maps is linear
pub IsLinear-xor : {f g : ℕ → ℕ} → IsLinear f → IsLinear g → IsLinear (λ x. bit_xor (f x) (g x))
IsLinear-xor {f} {g} first second = record {
  sums = λ a b.
      ap₂ bit_xor (first.sums a b) (second.sums a b)
      ∙ same_from_bits (bit_xor (bit_xor (f a) (f b)) (bit_xor (g a) (g b)))
      (bit_xor (bit_xor (f a) (g a)) (bit_xor (f b) (g b))) (λ i. simp bit_at_xor (omega arith));
}

-- words under masks that share no bit share none
pub and-masked : (a b m n : ℕ) → bit_and m n ≡ 0 → bit_and (bit_and a m) (bit_and b n) ≡ 0
and-masked a b m n apart =
    same_from_bits (bit_and (bit_and a m) (bit_and b n)) 0
    (λ i.
    let none = simp (bit_at_and, bit_at-zero) at (ap (λ y. bit_at y i) apart) in
    simp (bit_at_and, bit_at-zero) (omega (arith, none)))

-- ---- the bits that a linear map selects

-- the map takes the xor of two numbers to the sum of their lists of bits
abbrev TakesSums : (ℕ → List Bool) → Type 0
TakesSums g = (a b : ℕ) → g (bit_xor a b) ≡ xor_bits (g a) (g b)

-- the powers of two below 2 ^ n, and zero
abbrev powers : ℕ → List ℕ
powers zero = 0 ∷ []
powers (suc n) = 2 ^ n ∷ powers n

-- the 64 words with one bit, and zero
abbrev pub units : List ℕ
units = powers 64

-- maps that take sums and agree on zero and on the first n powers of two agree on all numbers below 2 ^ n
same_from_powers : (n : ℕ) (g h : ℕ → List Bool) → TakesSums g → TakesSums h → map g (powers n) ≡ map h (powers n)
    → (x : ℕ) → x < 2 ^ n → g x ≡ h x
same_from_powers zero g h g_sums h_sums each x below =
    let none : x ≡ 0 = omega arith in
    rw none (cc)
same_from_powers (suc n) g h g_sums h_sums each x below =
    let top : g (2 ^ n) ≡ h (2 ^ n) = cc in
    let rest : (y : ℕ) → y < 2 ^ n → g y ≡ h y = same_from_powers n g h g_sums h_sums (cc) in
    elim (cases_lt x (2 ^ n)) [
      | inl low ↦ rest x low
      | inr high ↦
          let y : ℕ = x - 2 ^ n in
          let small : y < 2 ^ n = omega (arith, pow-suc 2 n) in
          let split : x ≡ bit_xor (2 ^ n) y = omega (arith, rw one-mul at (xor_shifted 1 n y small)) in
          rw (split, g_sums (2 ^ n) y, h_sums (2 ^ n) y) (ap₂ xor_bits top (rest y small))
    ]

-- a bit of a sum of two lists of one length
pub bit-xor_bits : (bits others : List Bool) (i : ℕ) → length bits ≡ length others
    → get_or (xor_bits bits others) i false ≡ xor (get_or bits i false) (get_or others i false)
unfolding xor_bits
bit-xor_bits [] [] i same = refl
bit-xor_bits (first ∷ bits) (other ∷ others) zero same = refl
bit-xor_bits (first ∷ bits) (other ∷ others) (suc i) same = bit-xor_bits bits others i (omega arith)
bit-xor_bits bits others i same = absurd (omega arith)

-- a selection from a sum is the sum of the selections
pub select-xor_bits : (positions : List ℕ) (bits others : List Bool) → length bits ≡ length others
    → select positions (xor_bits bits others) ≡ xor_bits (select positions bits) (select positions others)
unfolding select xor_bits
select-xor_bits [] bits others same = refl
select-xor_bits (position ∷ positions) bits others same =
    ap₂ ◌∷◌ (bit-xor_bits bits others (position - 1) same) (select-xor_bits positions bits others same)

-- the sum of two lists of one length with m zeros after each
xor_bits-zeros : (m : ℕ) (bits others : List Bool) → length bits ≡ length others
    → xor_bits (bits ++ zeros m) (others ++ zeros m) ≡ xor_bits bits others ++ zeros m
unfolding xor_bits
xor_bits-zeros zero [] [] same = refl
xor_bits-zeros (suc m) [] [] same = ap (λ rest. false ∷ rest) (xor_bits-zeros m [] [] refl)
xor_bits-zeros m (first ∷ bits) (other ∷ others) same =
    ap (λ rest. xor first other ∷ rest) (xor_bits-zeros m bits others (omega arith))
xor_bits-zeros m bits others same = absurd (omega arith)

-- a selection from the bits of a word, with m zeros after it, takes sums
selection-sums : (positions : List ℕ) (m : ℕ) → TakesSums (λ u. select positions (bits_of_word u) ++ zeros m)
selection-sums positions m a b =
    let x : List Bool = bits_of_word a in
    let y : List Bool = bits_of_word b in
    rw (bits_of-xor 64 a b, select-xor_bits positions x y (length-bits_of 64 a ∙ sym (length-bits_of 64 b)))
    (sym (xor_bits-zeros m _ _ (length-select positions x ∙ sym (length-select positions y))))

-- a linear map whose selection of bits is right for zero and for the words with one bit, with m zeros after it, is that
-- selection for all words
pub select-from_units : (f : ℕ → ℕ) (positions : List ℕ) (m : ℕ) → IsLinear f
    → map (λ u. bits_of_word (f u)) units ≡ map (λ u. select positions (bits_of_word u) ++ zeros m) units
    → (x : ℕ) → x < 2 ^ 64 → bits_of_word (f x) ≡ select positions (bits_of_word x) ++ zeros m
select-from_units f positions m linear =
    same_from_powers 64 (λ u. bits_of_word (f u)) (λ u. select positions (bits_of_word u) ++ zeros m)
    (λ a b. ap bits_of_word (linear.sums a b) ∙ bits_of-xor 64 (f a) (f b)) (selection-sums positions m)
