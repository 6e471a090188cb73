-- No two types of contexts have a mark in common: it tells the algorithm, the parts of the key and whether calls read
-- tables.
use Rattle.std.proofs.Common.{◌≡◌, ℕ, ◌/◌, ◌<◌, Bool, true, false, refl, arith}
use Rattle.des_context.specs.Contexts.{mark_of}

pub mark-tells : (algorithm other words others : ℕ) (no_tables again : Bool) → words / 16 < 0x100 → others / 16 < 0x100
    → mark_of algorithm no_tables words ≡ mark_of other again others
    → (algorithm ≡ other) × (words / 16 ≡ others / 16) × (no_tables ≡ again)
mark-tells algorithm other words others true true few also same = (omega (arith, few, also, same), omega (arith, few, also, same), refl)
mark-tells algorithm other words others false false few also same = (omega (arith, few, also, same), omega (arith, few, also, same), refl)
mark-tells algorithm other words others true false few also same = absurd (omega (arith, few, also, same))
mark-tells algorithm other words others false true few also same = absurd (omega (arith, few, also, same))
