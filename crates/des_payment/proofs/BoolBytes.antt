-- A test as a number: one if it is true.
use Rattle.std.proofs.Common.{◌≡◌, ℕ, ◌+◌, ◌≤◌, Bool, true, false, cond, refl, arith}
use mir.Val.{bool_byte}

pub counted : (b : Bool) → bool_byte b ≡ cond b 1 0
counted true = refl
counted false = refl

pub few_more : (count i : ℕ) (b : Bool) → count ≤ i → count + bool_byte b ≤ i + 1
few_more count i true few = omega arith
few_more count i false few = let same : count + 0 ≤ i + 1 = omega arith in same
