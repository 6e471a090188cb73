use Rattle.std.proofs.Common.{◌≡◌, ℕ, ◌+◌, ◌%◌, ◌<◌, Bool, true, false, if◌then◌else◌, bit_xor, bit_and, ◌∙◌, arith, rules}
use mir.Val.{bool_byte}
use Rattle.des_payment.proofs.ChosenBytes.{chosen-ones, chosen-zeros, at_mask}
use Rattle.des_payment.proofs.masks.chosen.Goals as goal

-- what the mask chooses
by_mask : (condition : Bool) (mask one other : ℕ) → one < 256 → other < 256 → mask < 256
    → (mask + bool_byte condition) % 256 ≡ 0
    → bit_xor other (bit_and mask (bit_xor other one)) ≡ (if condition then one else other)
by_mask true mask one other small small_too low zero =
    let flag : (mask + 1) % 256 ≡ 0 = zero in
    let ones : mask ≡ 255 = omega (arith, flag) in
    at_mask mask 255 other one ones ∙ chosen-ones other one small_too small
by_mask false mask one other small small_too low zero =
    let flag : (mask + 0) % 256 ≡ 0 = zero in
    let zeros : mask ≡ 0 = omega (arith, flag) in
    at_mask mask 0 other one zeros ∙ chosen-zeros other one

pub returns : goal.returns
returns c =
    by_mask c.args.condition c.wrapping_neg.result c.args.one c.args.other (search rules) (search rules) (search rules)
    c.wrapping_neg.ensures
