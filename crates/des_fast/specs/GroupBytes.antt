-- The bytes of a word of groups, each with the group of one box: the boxes S1, S3, S5 and S7, then S2,
-- S4, S6 and S8.
use Rattle.std.specs.Prelude.{ℕ, List, [], ◌∷◌, map, slice_index_or}
use Rattle.des.specs.Tables.{Box, s1, s2, s3, s4, s5, s6, s7, s8}

-- the box of a byte, from 0
abbrev pub box_of_byte : ℕ → Box
box_of_byte i = slice_index_or (s1 ∷ s3 ∷ s5 ∷ s7 ∷ s2 ∷ s4 ∷ s6 ∷ s8 ∷ []) i []

-- what stands in the bytes, in the order of the boxes
abbrev pub byte_order : List ℕ
byte_order = 0 ∷ 4 ∷ 1 ∷ 5 ∷ 2 ∷ 6 ∷ 3 ∷ 7 ∷ []

abbrev pub in_order : List ℕ → List ℕ
in_order bytes = map (λ i. slice_index_or bytes i 0) byte_order
