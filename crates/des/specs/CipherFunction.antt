-- The cipher function f (FIPS 46-3, cipher function), and the substitution by the boxes in it (FIPS
-- 46-3, S-boxes).
use Rattle.std.specs.Prelude.{ℕ, List, [], ◌∷◌, ◌++◌, take, drop, Bool, slice_index, slice_index_or}
use Rattle.des.specs.Bits.{bit, bits_of, number_of, select, xor_bits}
use Rattle.des.specs.Tables.{Box, selection_functions, expansion, permutation}

-- the entry of a box for a group of six bits: the first and the last bit are the row, the middle
-- four the column
unfoldable pub box_entry : Box → List Bool → ℕ
box_entry box group =
    let row = number_of (bit group 1 ∷ bit group 6 ∷ []) in
    let column = number_of (bit group 2 ∷ bit group 3 ∷ bit group 4 ∷ bit group 5 ∷ []) in
    slice_index (slice_index_or box row []) column

-- each group of six bits replaced by the four bits of its box's entry
unfoldable pub substitute_by : List Box → List Bool → List Bool
substitute_by [] bits = []
substitute_by (box ∷ boxes) bits =
    bits_of 4 (box_entry box (take 6 bits)) ++ substitute_by boxes (drop 6 bits)

-- 48 bits replaced by 32, by S1 to S8
abbrev pub substitute : List Bool → List Bool
substitute bits = substitute_by selection_functions bits

-- f(R, K), of a half block of 32 bits and a round key of 48
unfoldable pub cipher_function : List Bool → List Bool → List Bool
cipher_function half_block round_key =
    select permutation (substitute (xor_bits (select expansion half_block) round_key))
