-- Tests of one bit of each byte of a vector: what they say of the byte, and what six of them write.
use Rattle.std.proofs.Common.{◌≡◌, ℕ, suc, ◌*◌, ◌^◌, ◌<◌, ◌==◌, cond, Bool, true, false, List, [], ◌∷◌, bit_and, bit_or, refl, ap, sym, ◌∙◌, arith}
use Rattle.std.specs.Int.{bit_at}
use Rattle.std.specs.Simd.Lanes.{top}
use Rattle.std.proofs.lemmas.Nat.{pow_pos}
use Rattle.std.proofs.lemmas.Nat.Bits.{bit_at-lt, and_pow}
use Rattle.std.proofs.lemmas.Bool.Decides.{nat_tests}
use Rattle.std.proofs.lemmas.Bool.{eqb-true}
use Rattle.des.specs.Bits.{bit, bits_of, number_of}
use Rattle.des_fast.proofs.TableTests.{in_all_ways-at, bits_of-written}

-- whether a byte has this bit: all ones or 0, read by the highest of them
abbrev pub has : ℕ → ℕ → Bool
has byte bit = top 7 (cond (bit_and byte bit == bit) 255 0)

pub top-cond : (b : Bool) → top 7 (cond b 255 0) ≡ b
top-cond true = refl
top-cond false = refl

-- a digit times a number that is not 0 is that number if the digit is 1
digit_test : (d p : ℕ) → d < 2 → 0 < p → (d * p == p) ≡ (d == 1)
digit_test (suc (suc d)) p below some = absurd (omega arith)
digit_test d p below some = grind (arith, nat_tests)

-- it is the bit at its place
has-bit : (byte k : ℕ) → has byte (2 ^ k) ≡ (bit_at byte k == 1)
has-bit byte k =
    top-cond (bit_and byte (2 ^ k) == 2 ^ k)
    ∙ ap (λ (n : ℕ). n == 2 ^ k) (and_pow byte k)
    ∙ digit_test (bit_at byte k) (2 ^ k) (bit_at-lt byte k) (pow_pos k)

-- six bits, each in its place or zero, joined as the three pairs of places stand in vectors
abbrev pub joined : Bool → Bool → Bool → Bool → Bool → Bool → ℕ
joined b5 b4 b3 b2 b1 b0 =
    bit_or
    (bit_or (bit_or (cond b0 1 0) (cond b2 4 0)) (cond b4 16 0))
    (bit_or (bit_or (cond b1 2 0) (cond b3 8 0)) (cond b5 32 0))

-- are a byte of two zeros and these bits
pub bits_of-joined : (b5 b4 b3 b2 b1 b0 : Bool)
    → bits_of 8 (joined b5 b4 b3 b2 b1 b0) ≡ false ∷ false ∷ b5 ∷ b4 ∷ b3 ∷ b2 ∷ b1 ∷ b0 ∷ []
unfolding number_of
bits_of-joined b5 b4 b3 b2 b1 b0 =
    let agrees : List Bool → Bool = λ bits.
    number_of (false ∷ false ∷ bits)
    == joined (bit bits 1) (bit bits 2) (bit bits 3) (bit bits 4) (bit bits 5) (bit bits 6) in
    sym (bits_of-written 8 _ (false ∷ false ∷ b5 ∷ b4 ∷ b3 ∷ b2 ∷ b1 ∷ b0 ∷ []) refl
    (eqb-true _ _ (in_all_ways-at 6 agrees refl (b5 ∷ b4 ∷ b3 ∷ b2 ∷ b1 ∷ b0 ∷ []) refl)))

-- the same of tests of six bytes
pub bits_of-tested : (e5 e4 e3 e2 e1 e0 k5 k4 k3 k2 k1 k0 : ℕ)
    → let test : ℕ → ℕ → Bool = λ e k. has e (2 ^ k) in
    let bit : ℕ → ℕ → Bool = λ e k. bit_at e k == 1 in
    bits_of 8 (joined (test e5 k5) (test e4 k4) (test e3 k3) (test e2 k2) (test e1 k1) (test e0 k0))
    ≡ false ∷ false ∷ bit e5 k5 ∷ bit e4 k4 ∷ bit e3 k3 ∷ bit e2 k2 ∷ bit e1 k1 ∷ bit e0 k0 ∷ []
bits_of-tested e5 e4 e3 e2 e1 e0 k5 k4 k3 k2 k1 k0 = simp has-bit (bits_of-joined _ _ _ _ _ _)
