-- Vectors of 32 bytes, each made of the byte at its index of another.
use Rattle.std.proofs.Common.{◌≡◌, ℕ, ◌==◌, cond, Bool, false, List, length, map, replicate, slice_index_or, get_or, bit_and, refl, sym, ap, ap₂, ◌∙◌, arith}
use Rattle.std.specs.Simd.Lanes.{zip2, sel_l, top}
use Rattle.std.proofs.lemmas.List.{get_or-map, get_or-replicate, length-map}
use Rattle.std.proofs.lemmas.Simd.{length-zip2, get_or-zip2, length-sel_l, get_or-sel_l}
use Rattle.des_fast.specs.ChosenTerms.{IsOfEachByte, AreMasks}
use Rattle.des_fast.proofs.ByteTests.{top-cond}

-- the bytes themselves
itself : (bytes : List ℕ) → length bytes ≡ 32 → IsOfEachByte (λ j byte. byte) bytes bytes
itself bytes count = record { count = count; each = λ j below. refl }

-- one value in each
pub splat : (value : ℕ) (bytes : List ℕ) → IsOfEachByte (λ j byte. value) bytes (replicate 32 value)
splat value bytes = record { count = refl; each = λ j below. get_or-replicate 32 j value 0 below }

-- two of them together
pub zipped : (f : ℕ → ℕ → ℕ) (g h : ℕ → ℕ → ℕ) (bytes xs ys : List ℕ)
    → IsOfEachByte g bytes xs → IsOfEachByte h bytes ys
    → IsOfEachByte (λ j byte. f (g j byte) (h j byte)) bytes (zip2 f xs ys)
zipped f g h bytes xs ys left right = record {
  count = length-zip2 f xs ys (left.count ∙ sym right.count) ∙ left.count;
  each = λ j below.
      get_or-zip2 f xs ys j 0 0 0 (omega arith) (omega arith) ∙ ap₂ f (left.each j below) (right.each j below);
}

-- tests, and one of two values for each
selected : (p : ℕ → Bool) (g : ℕ → ℕ → ℕ) (v w : ℕ) (bytes xs : List ℕ) → IsOfEachByte g bytes xs
    → IsOfEachByte (λ j byte. cond (p (g j byte)) v w) bytes (sel_l (map p xs) (replicate 32 v) (replicate 32 w))
selected p g v w bytes xs tested =
    let size : length (map p xs) ≡ 32 = length-map xs p ∙ tested.count in
    record {
      count = length-sel_l (map p xs) (replicate 32 v) (replicate 32 w) size size ∙ size;
      each = λ j below.
          get_or-sel_l (map p xs) (replicate 32 v) (replicate 32 w) j 0 (omega arith) below below
          ∙ ap₂ (cond (get_or (map p xs) j false)) (get_or-replicate 32 j v 0 below) (get_or-replicate 32 j w 0 below)
          ∙ ap (λ b. cond b v w) (get_or-map p xs j 0 false (omega arith) ∙ ap p (tested.each j below));
    }

-- the tests of one bit
pub masks : (bit : ℕ) (bytes : List ℕ) → length bytes ≡ 32
    → AreMasks bit bytes (sel_l
    (map (top 7) (zip2 (λ a b. cond (a == b) 255 0) (zip2 bit_and bytes (replicate 32 bit)) (replicate 32 bit)))
    (replicate 32 255) (replicate 32 0))
masks bit bytes count =
    let tested = selected (top 7) _ 255 0 bytes _
    (zipped (λ a b. cond (a == b) 255 0) _ _ bytes _ _
    (zipped bit_and _ _ bytes _ _ (itself bytes count) (splat bit bytes)) (splat bit bytes)) in
    record {
      count = tested.count;
      each = λ j below.
          tested.each j below ∙ ap (λ b. cond b 255 0) (top-cond (bit_and (slice_index_or bytes j 0) bit == bit));
    }
