-- Bytes as blocks of eight.
use Rattle.std.specs.Prelude.{◌≡◌, ℕ, ◌*◌, ◌%◌, ◌/◌, List, length}
use Rattle.std.specs.Simd.{first_chunks}

-- bytes are whole blocks
abbrev pub AreWhole : List ℕ → Type 0
AreWhole bytes = length bytes % 8 ≡ 0

-- the blocks of bytes, in their order; what comes after the last whole block is in none
abbrev pub blocks_of : List ℕ → List (List ℕ)
blocks_of bytes = first_chunks 8 (length bytes / 8) bytes

-- these blocks have `size` bytes
abbrev pub AreBytesOf : List (List ℕ) → ℕ → Type 0
AreBytesOf blocks size = size ≡ 8 * length blocks

-- the blocks have `size` bytes, and the buffer has as many blocks
abbrev pub FitInto : List (List ℕ) → List (List ℕ) → ℕ → Type 0
FitInto buffer blocks size = (length buffer ≡ length blocks) × AreBytesOf blocks size
