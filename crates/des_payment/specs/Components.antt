-- Keys of components.
use Rattle.std.specs.Prelude.{ℕ, ◌%◌, ◌==◌, if◌then◌else◌, List, [], ◌∷◌, map, bit_xor, count_ones}
use Rattle.std.specs.List.{fold}
use Rattle.des.specs.Cbc.{xor_blocks}

-- the byte with odd parity: its lowest bit is such that the number of ones is odd
abbrev pub odd : ℕ → ℕ
odd byte = if count_ones byte % 2 == 1 then byte else bit_xor byte 1

-- the xor of components of one length
abbrev pub xor_of : List (List ℕ) → List ℕ
xor_of [] = []
xor_of (component ∷ components) = fold xor_blocks component components

-- the key of components: their xor, each byte with odd parity
abbrev pub combined : List (List ℕ) → List ℕ
combined components = map odd (xor_of components)
