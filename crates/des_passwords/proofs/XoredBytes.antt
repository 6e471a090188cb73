-- Bytes that are xored one by one.
use Rattle.std.proofs.Common.{◌≡◌, ℕ, ◌<◌, List, length, get_or, bit_xor, arith}
use Rattle.std.specs.Simd.Lanes.{zip2}
use Rattle.std.proofs.lemmas.Grind.{same_number_lists}
use Rattle.std.proofs.lemmas.Simd.{length-zip2, get_or-zip2}

-- a list of the xors at each place is the two lists' xor
pub zip2-from_bytes : (xored bytes others : List ℕ) → length xored ≡ length bytes → length bytes ≡ length others
    → ((k : ℕ) → k < length bytes → get_or xored k 0 ≡ bit_xor (get_or bytes k 0) (get_or others k 0))
    → xored ≡ zip2 bit_xor bytes others
zip2-from_bytes xored bytes others long same each =
    let count = length-zip2 bit_xor bytes others same in
    same_number_lists xored (zip2 bit_xor bytes others) (omega arith) (λ k within.
    let inside : k < length bytes = omega arith in
    rw (get_or-zip2 bit_xor bytes others k 0 0 0 inside (omega arith)) (each k inside))
