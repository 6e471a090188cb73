-- Exchanges of bits between two words at a distance, under a mask.
use Rattle.std.proofs.Common.{◌≡◌, ℕ, ◌+◌, ◌-◌, ◌*◌, ◌/◌, ◌%◌, ◌^◌, ◌<◌, ◌≤◌, Bool, true, false, ◌&&◌, bit_and, bit_xor, ap, ◌∙◌, arith, inl, inr}
use Rattle.std.proofs.lemmas.Bool.{cases_lt}
use Rattle.std.proofs.Math.Bool.{and-false}
use Rattle.des.specs.Bits.{xor}
use Rattle.des_fast.proofs.WordPlaces.{bit_in-shr, bit_in-shl, bit_in-past}
use Rattle.des_fast.proofs.SliceBits.{IsBitwise-and, IsBitwise-xor, bit_in, bit_in-bitwise}
use Rattle.des_fast.proofs.XoredLists.{xor-false}

-- the bits that two words exchange, at the places of the second
abbrev change : ℕ → ℕ → ℕ → ℕ → ℕ
change d m x y = bit_and (bit_xor x (y / 2 ^ d)) m

-- a bit xor the xor of itself and another, if the other is taken
take_other : (x y t : Bool) → t ≡ true → xor x (xor x y && t) ≡ y
take_other x y t is = grind (arith, is)

-- the same in the other order
take_back : (y x t : Bool) → t ≡ true → xor y (xor x y && t) ≡ x
take_back y x t is = grind (arith, is)

-- and if it is not
keep_own : (x y t : Bool) → t ≡ false → xor x (y && t) ≡ x
keep_own x y t is = grind (arith, is)

-- a bit of the change, at a place whose partner lies before it
change-at : (d m x y p : ℕ) → p < 64 → d ≤ p
    → bit_in (change d m x y) p ≡ (xor (bit_in x p) (bit_in y (p - d)) && bit_in m p)
change-at d m x y p within after =
    bit_in-bitwise bit_and ◌&&◌ IsBitwise-and (bit_xor x (y / 2 ^ d)) m p within
    ∙ ap (λ (t : Bool). t && bit_in m p)
    (bit_in-bitwise bit_xor xor IsBitwise-xor x (y / 2 ^ d) p within
    ∙ ap (xor (bit_in x p)) (bit_in-shr y d p within after))

-- the first word with the change
abbrev pub upper : ℕ → ℕ → ℕ → ℕ → ℕ
upper d m x y = bit_xor x (change d m x y)

-- the second word with the change
abbrev pub lower : ℕ → ℕ → ℕ → ℕ → ℕ
lower d m x y = bit_xor y (change d m x y * 2 ^ d % 2 ^ 64)

-- the first word takes the places under the mask from the second
pub upper-second : (d m x y p : ℕ) → p < 64 → d ≤ p → bit_in m p ≡ true → bit_in (upper d m x y) p ≡ bit_in y (p - d)
upper-second d m x y p within after masked =
    bit_in-bitwise bit_xor xor IsBitwise-xor x (change d m x y) p within
    ∙ ap (xor (bit_in x p)) (change-at d m x y p within after)
    ∙ take_other (bit_in x p) (bit_in y (p - d)) (bit_in m p) masked

-- and keeps the others
pub upper-first : (d m x y p : ℕ) → p < 64 → bit_in m p ≡ false → bit_in (upper d m x y) p ≡ bit_in x p
upper-first d m x y p within free =
    bit_in-bitwise bit_xor xor IsBitwise-xor x (change d m x y) p within
    ∙ ap (xor (bit_in x p)) (bit_in-bitwise bit_and ◌&&◌ IsBitwise-and (bit_xor x (y / 2 ^ d)) m p within)
    ∙ keep_own (bit_in x p) (bit_in (bit_xor x (y / 2 ^ d)) p) (bit_in m p) free

-- a bit of the second word, by the change
lower-at : (d m x y p : ℕ) → d < 64 → p < 64
    → bit_in (lower d m x y) p ≡ xor (bit_in y p) (bit_in (change d m x y) (p + d))
lower-at d m x y p small within =
    bit_in-bitwise bit_xor xor IsBitwise-xor y (change d m x y * 2 ^ d % 2 ^ 64) p within
    ∙ ap (xor (bit_in y p)) (bit_in-shl (change d m x y) d p small within)

-- the second word takes the places whose partners are under the mask from the first
pub lower-first : (d m x y p : ℕ) → d < 64 → p < 64 → bit_in m (p + d) ≡ true
    → bit_in (lower d m x y) p ≡ bit_in x (p + d)
lower-first d m x y p small within masked =
    elim (cases_lt (p + d) 64) [
      | inl low ↦
          lower-at d m x y p small within
          ∙ ap (xor (bit_in y p))
          (change-at d m x y (p + d) low (omega arith)
          ∙ ap (λ (k : ℕ). xor (bit_in x (p + d)) (bit_in y k) && bit_in m (p + d)) (omega arith))
          ∙ take_back (bit_in y p) (bit_in x (p + d)) (bit_in m (p + d)) masked
      | inr high ↦ cc (masked, bit_in-past m (p + d) high)
    ]

-- and keeps the others
pub lower-second : (d m x y p : ℕ) → d < 64 → p < 64 → bit_in m (p + d) ≡ false → bit_in (lower d m x y) p ≡ bit_in y p
lower-second d m x y p small within free =
    lower-at d m x y p small within
    ∙ ap (xor (bit_in y p))
    (elim (cases_lt (p + d) 64) [
      | inl low ↦
          change-at d m x y (p + d) low (omega arith)
          ∙ ap (λ (t : Bool). xor (bit_in x (p + d)) (bit_in y (p + d - d)) && t) free
          ∙ and-false (xor (bit_in x (p + d)) (bit_in y (p + d - d)))
      | inr high ↦ bit_in-past (change d m x y) (p + d) high
    ])
    ∙ xor-false (bit_in y p)
