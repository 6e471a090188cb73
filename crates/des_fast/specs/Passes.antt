-- Passes of DES, one after another, of bits, of blocks and of slices.
use Rattle.std.specs.Prelude.{ℕ, List, [], ◌∷◌, Bool}
use Rattle.des.specs.Bits.{bits_of_bytes}
use Rattle.des.specs.Blocks.{block_of_bits}
use Rattle.des.specs.Rounds.{through_rounds}

-- what passes make of 64 bits, each by its round keys
abbrev pub through_passes : List (List (List Bool)) → List Bool → List Bool
through_passes [] bits = bits
through_passes (keys ∷ passes) bits = through_passes passes (through_rounds keys bits)

-- what they make of a block
abbrev pub block_through_passes : List (List (List Bool)) → List ℕ → List ℕ
block_through_passes passes block = block_of_bits (through_passes passes (bits_of_bytes block))
