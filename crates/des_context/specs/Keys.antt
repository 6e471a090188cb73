-- Keys of any of the ciphers.
use Rattle.std.specs.Prelude.{◌≡◌, ◌⊎◌, ℕ, ◌/◌, List, length}
use Rattle.std.specs.List.{AllZip}
use Rattle.std.specs.Simd.{first_chunks}
use Rattle.des.specs.Parity.{AgreeOutsideParity}
use Rattle.des_context.specs.Bytes.{AreWhole, blocks_of}

-- the bytes of a key of one, two or three parts
abbrev pub IsKeyLength : ℕ → Type 0
IsKeyLength bytes = (bytes ≡ 8) ⊎ (bytes ≡ 16) ⊎ (bytes ≡ 24)

-- the keys of `size` bytes in a list of bytes, in their order; what comes after the last whole key is in none
abbrev pub keys_of : ℕ → List ℕ → List (List ℕ)
keys_of size bytes = first_chunks size (length bytes / size) bytes

-- two keys have as many whole parts, and each part agrees with the one at its place outside parity
abbrev pub AgreeInEachPart : List ℕ → List ℕ → Type 0
AgreeInEachPart first second =
    (length first ≡ length second) × AreWhole first × AllZip AgreeOutsideParity (blocks_of first) (blocks_of second)
