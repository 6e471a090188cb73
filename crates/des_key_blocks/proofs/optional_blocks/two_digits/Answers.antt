use Rattle.std.proofs.Common.{ℕ, [], ◌∷◌, ap₂}
use Rattle.des_key_blocks.specs.Hex.{hex_number}
use Rattle.des_key_blocks.proofs.optional_blocks.two_digits.Goals as goal

pub returns : goal.returns
unfolding hex_number
returns c = ap₂ (λ (high low : ℕ). high ∷ low ∷ []) c.hex_digit.ensures c.hex_digit-2.ensures
