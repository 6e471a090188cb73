-- The paddings of ISO/IEC 9797-1:2011, which make whole blocks of 8 bytes of any list of bytes.
use Rattle.std.specs.Prelude.{◌≡◌, ℕ, ◌+◌, ◌-◌, ◌*◌, ◌/◌, ◌%◌, ◌≤◌, List, ◌∷◌, ◌++◌, length, replicate}

-- as few blocks as hold n bytes, and one at least
abbrev pub block_count : ℕ → ℕ
block_count n = (n - 1) / 8 + 1

-- how many of n bytes stand in the last block: of no bytes none, and of a whole last block eight
abbrev pub last_count : ℕ → ℕ
last_count n = n - (block_count n - 1) * 8

-- n bytes are whole blocks, one at least
abbrev pub AreWholeBlocks : ℕ → Type 0
AreWholeBlocks n = (n % 8 ≡ 0) × (8 ≤ n)

-- padding method 1 (6.3.2), after n bytes: as few zeros as make whole blocks, one block at least
abbrev pub zeros_after : ℕ → List ℕ
zeros_after n = replicate (block_count n * 8 - n) 0

-- padding method 2 (6.3.3), after n bytes: a one bit, and then as few zeros as make whole blocks
abbrev pub one_bit_after : ℕ → List ℕ
one_bit_after n = 0x80 ∷ replicate (7 - n % 8) 0

-- the bytes with a padding after them
abbrev pub padded : (ℕ → List ℕ) → List ℕ → List ℕ
padded padding_after m = m ++ padding_after (length m)
