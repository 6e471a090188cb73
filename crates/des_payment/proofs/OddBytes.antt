-- The byte with odd parity has the upper bits of a byte and an odd number of ones.
use Rattle.std.proofs.Common.{◌≡◌, ℕ, ◌-◌, ◌/◌, ◌%◌, ◌==◌, refl, ◌∙◌, bit_xor, count_ones, arith}
use Rattle.std.specs.Int.Bits.{xor_zero_r}
use Rattle.std.proofs.lemmas.Bool.{cond_both, eqb-true, eqb-false}
use Rattle.std.proofs.lemmas.Nat.{xor_shr}
use Rattle.des.proofs.ParityBits.{count_ones-xor_one}
use Rattle.des_payment.specs.Components.{odd}

-- it is one
pub odd-parts : (byte : ℕ) → (odd byte / 2 ≡ byte / 2) × (count_ones (odd byte) % 2 ≡ 1)
odd-parts byte =
    cond_both (count_ones byte % 2 == 1) byte (bit_xor byte 1)
    (λ other. (other / 2 ≡ byte / 2) × (count_ones other % 2 ≡ 1))
    (λ is. (refl, eqb-true (count_ones byte % 2) 1 is))
    (λ is_not. (
      xor_shr byte 1 1 ∙ xor_zero_r (byte / 2),
      count_ones-xor_one byte (omega (arith, eqb-false (count_ones byte % 2) 1 is_not)),
    ))
