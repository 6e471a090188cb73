-- A block doubled, by its highest bit.
use Rattle.std.proofs.Common.{◌≡◌, ℕ, ◌*◌, ◌%◌, ◌<◌, List, true, false, refl, arith}
use Rattle.std.proofs.lemmas.Bool.Decides.{nat_tests}
use Rattle.std.specs.Prelude.{◌^◌, ◌≤◌, nat_lt, bit_xor}
use Rattle.std.specs.Int.{w64, from_be_bytes, to_be_bytes}
use Rattle.des_mac.specs.Cmac.{doubled}

-- if it is zero the bits are moved
pub doubled-low : (block : List ℕ) (word : ℕ) → word ≡ from_be_bytes w64 block → word < 2 ^ 63
    → doubled block ≡ to_be_bytes w64 (word * 2 % 2 ^ 64)
unfolding doubled
doubled-low block word read low =
    let is : nat_lt word (2 ^ 63) ≡ true = grind (arith, nat_tests) in
    rw (← read, is) refl

-- and if it is one they are xored too
pub doubled-high : (block : List ℕ) (word : ℕ) → word ≡ from_be_bytes w64 block → 2 ^ 63 ≤ word
    → doubled block ≡ to_be_bytes w64 (bit_xor (word * 2 % 2 ^ 64) 0b00011011)
unfolding doubled
doubled-high block word read high =
    let is : nat_lt word (2 ^ 63) ≡ false = grind (arith, nat_tests) in
    rw (← read, is) refl
