-- Linear maps whose images lie under a mask: the images shifted or rotated, and those of two maps joined by or, if the
-- masks share no bit.
use Rattle.std.proofs.Common.{◌≡◌, ℕ, ◌-◌, ◌*◌, ◌/◌, ◌%◌, ◌^◌, bit_and, bit_or, bit_xor, ap, ap₂, sym, ◌∙◌, arith, add-zero, pow_pos}
use Rattle.std.specs.Int.{bit_at}
use Rattle.std.specs.Int.Bits.{xor_disjoint}
use Rattle.std.proofs.lemmas.Nat.{and_block, and_mod, and_shr, or_disjoint}
use Rattle.std.proofs.lemmas.Nat.Bits.{same_from_bits, bit_at_and, bit_at_or}
use Rattle.des.proofs.LinearWords.{IsLinear, IsLinear-mask, IsLinear-shl, IsLinear-shr, IsLinear-xor, and-masked}

-- the map is linear, and each of its images is under the mask
pub record IsLinearUnder (mask : ℕ) (f : ℕ → ℕ) : Type 0 where
  pub linear : IsLinear f
  pub under : (x : ℕ) → bit_and (f x) mask ≡ f x

-- a mask of a masked word changes nothing
pub and-same : (x mask : ℕ) → bit_and (bit_and x mask) mask ≡ bit_and x mask
and-same x mask = same_from_bits (bit_and (bit_and x mask) mask) (bit_and x mask) (λ i. simp bit_at_and (omega arith))

-- the images of a linear map, masked
pub IsLinearUnder-mask : {f : ℕ → ℕ} → (mask : ℕ) → IsLinear f → IsLinearUnder mask (λ x. bit_and (f x) mask)
IsLinearUnder-mask {f} mask linear = record { linear = IsLinear-mask mask linear; under = λ x. and-same (f x) mask }

-- an and shifted to the left is the and of the shifted
and-shl : (a b k : ℕ) → bit_and (a * 2 ^ k) (b * 2 ^ k) ≡ bit_and a b * 2 ^ k
and-shl a b k = simp add-zero at (and_block k a b 0 0 (pow_pos k) (pow_pos k))

-- the images of a linear map, shifted to the left in a word
pub IsLinearUnder-shl : {mask : ℕ} → {f : ℕ → ℕ} → (k : ℕ) → IsLinearUnder mask f
    → IsLinearUnder (mask * 2 ^ k % 2 ^ 64) (λ x. f x * 2 ^ k % 2 ^ 64)
IsLinearUnder-shl {mask} {f} k map = record {
  linear = IsLinear-shl k map.linear;
  under = λ x.
      sym (and_mod (f x * 2 ^ k) (mask * 2 ^ k) 64)
      ∙ ap (λ y. y % 2 ^ 64) (and-shl (f x) mask k ∙ ap (λ y. y * 2 ^ k) (map.under x));
}

-- and to the right
pub IsLinearUnder-shr : {mask : ℕ} → {f : ℕ → ℕ} → (k : ℕ) → IsLinearUnder mask f
    → IsLinearUnder (mask / 2 ^ k) (λ x. f x / 2 ^ k)
IsLinearUnder-shr {mask} {f} k map = record {
  linear = IsLinear-shr k map.linear;
  under = λ x. sym (and_shr (f x) mask k) ∙ ap (λ y. y / 2 ^ k) (map.under x);
}

-- the or of words under masks is under the or of the masks
under-or : (a b m n : ℕ) → bit_and a m ≡ a → bit_and b n ≡ b → bit_and (bit_or a b) (bit_or m n) ≡ bit_or a b
under-or a b m n a_under b_under =
    same_from_bits (bit_and (bit_or a b) (bit_or m n)) (bit_or a b)
    (λ i.
    let a_bit = simp bit_at_and at (ap (λ y. bit_at y i) a_under) in
    let b_bit = simp bit_at_and at (ap (λ y. bit_at y i) b_under) in
    simp (bit_at_and, bit_at_or) (omega (arith, a_bit, b_bit)))

-- the or of words under masks that share no bit is their xor
or-under : (a b m n : ℕ) → bit_and m n ≡ 0 → bit_and a m ≡ a → bit_and b n ≡ b → bit_or a b ≡ bit_xor a b
or-under a b m n apart a_under b_under =
    let none : bit_and a b ≡ 0 = ap₂ bit_and (sym a_under) (sym b_under) ∙ and-masked a b m n apart in
    or_disjoint a b none ∙ sym (xor_disjoint a b none)

-- the or of two linear maps under masks that share no bit
pub IsLinearUnder-or : {m n : ℕ} → {f g : ℕ → ℕ} → IsLinearUnder m f → IsLinearUnder n g → bit_and m n ≡ 0
    → IsLinearUnder (bit_or m n) (λ x. bit_or (f x) (g x))
IsLinearUnder-or {m} {n} {f} {g} first second apart =
    let joined : (x : ℕ) → bit_or (f x) (g x) ≡ bit_xor (f x) (g x) =
    λ x. or-under (f x) (g x) m n apart (first.under x) (second.under x) in
    let both = IsLinear-xor first.linear second.linear in
    record {
      linear = record { sums = λ a b. joined (bit_xor a b) ∙ both.sums a b ∙ sym (ap₂ bit_xor (joined a) (joined b)) };
      under = λ x. under-or (f x) (g x) m n (first.under x) (second.under x);
    }

-- the images of a linear map, rotated to the left: the masks of the two shifts share no bit
pub IsLinearUnder-rotate : {mask : ℕ} → {f : ℕ → ℕ} → (k : ℕ) → bit_and (mask * 2 ^ k % 2 ^ 64) (mask / 2 ^ (64 - k)) ≡ 0
    → IsLinearUnder mask f → IsLinearUnder (bit_or (mask * 2 ^ k % 2 ^ 64) (mask / 2 ^ (64 - k)))
    (λ x. bit_or (f x * 2 ^ k % 2 ^ 64) (f x / 2 ^ (64 - k)))
IsLinearUnder-rotate k apart map = IsLinearUnder-or (IsLinearUnder-shl k map) (IsLinearUnder-shr (64 - k) map) apart
