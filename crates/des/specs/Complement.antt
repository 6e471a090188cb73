-- Complements: each bit the other one.
use Rattle.std.specs.Prelude.{ℕ, not, List, map, Bool}
use Rattle.des.specs.Bits.{bits_of, number_of}

-- each bit of a list the other one
abbrev pub complement_bits : List Bool → List Bool
complement_bits bits = map not bits

-- the byte whose eight bits are those of a byte, each the other one
unfoldable pub complement_of_byte : ℕ → ℕ
complement_of_byte byte = number_of (complement_bits (bits_of 8 byte))

-- the complement of bytes, of a key or of a block: each byte's
abbrev pub complement : List ℕ → List ℕ
complement bytes = map complement_of_byte bytes
