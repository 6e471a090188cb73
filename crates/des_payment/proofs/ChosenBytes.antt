-- One of two bytes by a mask of ones or of zeros.
use Rattle.std.proofs.Common.{◌≡◌, ℕ, ◌%◌, ◌<◌, bit_xor, bit_and, refl, sym, ap, ◌∙◌, arith}
use Rattle.std.specs.Int.Bits.{xor_self, xor_assoc, xor_zero_r, xor_zero_l, and_zero_l}
use Rattle.std.proofs.lemmas.Nat.{xor_lt, and_comm}
use Rattle.std.proofs.lemmas.Grind.{and_numeral}

pub at_mask : (mask other a b : ℕ) → mask ≡ other
    → bit_xor a (bit_and mask (bit_xor a b)) ≡ bit_xor a (bit_and other (bit_xor a b))
at_mask mask other a b same = ap (λ (m : ℕ). bit_xor a (bit_and m (bit_xor a b))) same

pub chosen-ones : (a b : ℕ) → a < 256 → b < 256 → bit_xor a (bit_and 255 (bit_xor a b)) ≡ b
chosen-ones a b small small_too =
    let below : bit_xor a b < 256 = xor_lt 8 a b small small_too in
    let whole : bit_xor a b % 256 ≡ bit_xor a b = omega arith in
    let all : bit_and 255 (bit_xor a b) ≡ bit_xor a b =
    and_comm 255 (bit_xor a b) ∙ and_numeral (bit_xor a b) 254 refl ∙ whole in
    ap (bit_xor a) all
    ∙ sym (xor_assoc a a b)
    ∙ ap (λ (x : ℕ). bit_xor x b) (xor_self a)
    ∙ xor_zero_l b

pub chosen-zeros : (a b : ℕ) → bit_xor a (bit_and 0 (bit_xor a b)) ≡ a
chosen-zeros a b = ap (bit_xor a) (and_zero_l (bit_xor a b)) ∙ xor_zero_r a
