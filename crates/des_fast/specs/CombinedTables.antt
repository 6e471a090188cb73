-- The combined tables: for each box and each group of six bits, what P and then E make of the box's
-- entry.
use Rattle.std.specs.Prelude.{ℕ, ◌+◌, List, [], map, slice_index_or}
use Rattle.std.specs.List.{range_with_len}
use Rattle.des.specs.Bits.{bits_of, select}
use Rattle.des.specs.Tables.{Box, selection_functions, expansion, permutation}
use Rattle.des.specs.CipherFunction.{box_entry}
use Rattle.des_fast.specs.Groups.{word_of_groups, in_place}

-- the entry of box n, from 1, for a group, in its place among those of the eight boxes, after P and
-- E: a word of groups
abbrev pub combined_entry : ℕ → Box → ℕ → ℕ
combined_entry n box group =
    let entry = in_place 8 n (bits_of 4 (box_entry box (bits_of 6 group))) in
    word_of_groups (select expansion (select permutation entry))

-- the 64 of a box, in the order of the groups 000000 to 111111
abbrev pub combined_table : ℕ → Box → List ℕ
combined_table n box = map (combined_entry n box) (range_with_len 0 64)

-- those of S1 to S8
abbrev pub combined_tables : List (List ℕ)
combined_tables = map (λ i. combined_table (1 + i) (slice_index_or selection_functions i [])) (range_with_len 0 8)
