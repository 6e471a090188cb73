-- The key wrap TKW of triple DES (NIST SP 800-38F, 7): a key in semiblocks of 32 bits, four bytes each.
use Rattle.std.specs.Prelude.{◌≡◌, ℕ, zero, suc, ◌-◌, ◌*◌, List, [], ◌∷◌, ◌++◌, length, take, drop}
use Rattle.std.specs.Int.{w32, to_be_bytes}
use Rattle.des.specs.Blocks.{AreBytes}
use Rattle.des.specs.Cbc.{xor_blocks}
use Rattle.des_modes.specs.Streams.{Under}

abbrev pub IsSemiblock : List ℕ → Type 0
IsSemiblock word = (length word ≡ 4) × AreBytes word

-- step t of TW, of A and R(2), .., R(n): A becomes MSB32(E(A | R(2))) ^ [t]32, and R(3), .., R(n) move to the left, before
-- LSB32(E(A | R(2)))
abbrev pub tw_step : (List ℕ → List ℕ) → ℕ → List (List ℕ) → List (List ℕ)
tw_step encryption t (a ∷ r ∷ rest) =
    xor_blocks (take 4 (encryption (a ++ r))) (to_be_bytes w32 t) ∷ rest ++ drop 4 (encryption (a ++ r)) ∷ []
tw_step encryption t words = words

-- the first t steps
abbrev pub tw_steps : (List ℕ → List ℕ) → ℕ → List (List ℕ) → List (List ℕ)
tw_steps encryption zero words = words
tw_steps encryption (suc t) words = tw_step encryption (suc t) (tw_steps encryption t words)

-- TW(S), in s = 6 (n - 1) steps
abbrev pub tw : (List ℕ → List ℕ) → List (List ℕ) → List (List ℕ)
tw encryption words = tw_steps encryption (6 * (length words - 1)) words

-- TKW-AE(P), with the integrity check value ICV3 in front
abbrev pub tkw : (List ℕ → List ℕ) → List (List ℕ) → List (List ℕ)
tkw encryption key = tw encryption ((0xa6 ∷ 0xa6 ∷ 0xa6 ∷ 0xa6 ∷ []) ∷ key)

-- by a relation of blocks
abbrev pub TkwUnder : (List ℕ → List ℕ → Type 0) → List (List ℕ) → List (List ℕ) → Type 0
TkwUnder Encrypts key wrapped = Under Encrypts (λ encryption. tkw encryption key ≡ wrapped)
