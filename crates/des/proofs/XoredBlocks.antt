-- The xor of two blocks.
use Rattle.std.proofs.Common.{◌≡◌, ℕ, ◌<◌, List, [], ◌∷◌, length, get_or, bit_xor, refl, ap, arith}
use Rattle.std.specs.Int.Bits.{xor_self, xor_assoc, xor_zero_r}
use Rattle.std.proofs.lemmas.Grind.{same_number_lists}
use Rattle.std.proofs.lemmas.List.Elements.{All-from_get_or}
use Rattle.std.proofs.lemmas.Nat.{xor_lt}
use Rattle.std.proofs.lemmas.Simd.{length-zip2, get_or-zip2}
use Rattle.des.specs.Blocks.{IsBlock}
use Rattle.des.specs.Cbc.{xor_blocks}

-- it is as long as the two
pub length-xor_blocks : (block other : List ℕ) → length block ≡ length other
    → length (xor_blocks block other) ≡ length block
unfolding xor_blocks
length-xor_blocks block other same = length-zip2 bit_xor block other same

-- each of its bytes is the xor of the two at its place
get_or-xor_blocks : (block other : List ℕ) (k : ℕ) → k < length block → k < length other
    → get_or (xor_blocks block other) k 0 ≡ bit_xor (get_or block k 0) (get_or other k 0)
unfolding xor_blocks
get_or-xor_blocks block other k within inside = get_or-zip2 bit_xor block other k 0 0 0 within inside

-- a list with those bytes is the xor
pub xor_blocks-from_bytes : (xored block other : List ℕ) → length xored ≡ length block → length block ≡ length other
    → ((k : ℕ) → k < length block → get_or xored k 0 ≡ bit_xor (get_or block k 0) (get_or other k 0))
    → xored ≡ xor_blocks block other
xor_blocks-from_bytes xored block other long same bytes =
    let count = length-xor_blocks block other same in
    same_number_lists xored (xor_blocks block other) (omega arith) (λ k within.
    let inside : k < length block = omega arith in
    rw (get_or-xor_blocks block other k inside (omega arith)) (bytes k inside))

-- a block xor another, xor the other again, is the block
pub xor_blocks-undone : (block other : List ℕ) → length block ≡ length other
    → xor_blocks (xor_blocks block other) other ≡ block
unfolding xor_blocks
xor_blocks-undone [] others same = refl
xor_blocks-undone (byte ∷ bytes) [] same = absurd (omega arith)
xor_blocks-undone (byte ∷ bytes) (other ∷ others) same =
    rw (xor_assoc byte other other, xor_self other, xor_zero_r byte)
    (ap (λ (rest : List ℕ). byte ∷ rest) (xor_blocks-undone bytes others (omega arith)))

-- the xor of two blocks is a block
pub IsBlock-xor_blocks : (block other : List ℕ) → IsBlock block → IsBlock other → IsBlock (xor_blocks block other)
IsBlock-xor_blocks block other is_block is_other =
    let count : length (xor_blocks block other) ≡ 8 = omega (arith, length-xor_blocks block other) in (
      count,
      All-from_get_or (λ byte. byte < 256) (xor_blocks block other) 0 (λ k within.
          rw (get_or-xor_blocks block other k (omega arith) (omega arith))
          (xor_lt 8 (get_or block k 0) (get_or other k 0) (is_block.1 k 0 (omega arith))
          (is_other.1 k 0 (omega arith)))),
    )
