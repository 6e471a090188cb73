-- The boxes S1 to S8 (FIPS 46-3, S-boxes) as lists: the entry for a group of six bits stands at the
-- number that the group writes.
use Rattle.std.specs.Prelude.{ℕ, List, map}
use Rattle.std.specs.List.{range_with_len}
use Rattle.des.specs.Bits.{bits_of}
use Rattle.des.specs.Tables.{Box, selection_functions}
use Rattle.des.specs.CipherFunction.{box_entry}

-- the 64 entries of a box, in the order of the groups 000000 to 111111
abbrev entries_in_order : Box → List ℕ
entries_in_order box = map (λ group. box_entry box (bits_of 6 group)) (range_with_len 0 64)

-- the eight boxes so
abbrev pub boxes_in_order : List (List ℕ)
boxes_in_order = map entries_in_order selection_functions
