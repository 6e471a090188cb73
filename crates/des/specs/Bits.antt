-- The bits of bytes and of words, as lists. The standard numbers bits from left to right and from
-- 1: bit 1 is the most significant bit of the first byte (FIPS 46-3, numbering of bits).
use Rattle.std.specs.Prelude.{ℕ, zero, suc, ◌+◌, ◌-◌, ◌^◌, ◌==◌, if◌then◌else◌, Bool, true, false, not, List, [], ◌∷◌, ◌++◌, length, map, replicate, slice_index_or}
use Rattle.std.specs.Int.{bit_at}

-- the lowest n bits of a number, the most significant first
unfoldable pub bits_of : ℕ → ℕ → List Bool
bits_of zero number = []
bits_of (suc n) number = (bit_at number n == 1) ∷ bits_of n number

-- the 64 bits of a word
abbrev pub bits_of_word : ℕ → List Bool
bits_of_word word = bits_of 64 word

-- the bits of a list of bytes, eight a byte
unfoldable pub bits_of_bytes : List ℕ → List Bool
bits_of_bytes [] = []
bits_of_bytes (byte ∷ bytes) = bits_of 8 byte ++ bits_of_bytes bytes

-- the number that bits write, the most significant first
unfoldable pub number_of : List Bool → ℕ
number_of [] = 0
number_of (bit ∷ bits) = (if bit then 2 ^ length bits else 0) + number_of bits

-- n bits that are all zero
abbrev pub zeros : ℕ → List Bool
zeros n = replicate n false

-- the bit at a position, from 1
abbrev pub bit : List Bool → ℕ → Bool
bit bits position = slice_index_or bits (position - 1) false

-- the bits at the positions of a list, in its order: how the standard's permutation tables are read
unfoldable pub select : List ℕ → List Bool → List Bool
select positions bits = map (bit bits) positions

-- addition of two bits modulo 2
abbrev pub xor : Bool → Bool → Bool
xor true other = not other
xor false other = other

-- addition modulo 2, bit by bit, of two lists of one length
unfoldable pub xor_bits : List Bool → List Bool → List Bool
xor_bits [] others = []
xor_bits (bit ∷ bits) [] = []
xor_bits (bit ∷ bits) (other ∷ others) = xor bit other ∷ xor_bits bits others
