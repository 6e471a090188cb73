-- The xor of bits.
use Rattle.std.proofs.Common.{◌≡◌, Bool, true, false, refl}
use Rattle.des.specs.Bits.{xor}

-- a zero changes nothing
pub xor-false : (b : Bool) → xor b false ≡ b
xor-false true = refl
xor-false false = refl
