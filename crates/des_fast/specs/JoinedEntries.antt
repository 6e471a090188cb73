-- The entries of the boxes for four blocks as the code joins them: those of two blocks in the bytes of one word.
use Rattle.std.specs.Prelude.{ℕ, ◌+◌, ◌-◌, ◌*◌, List, [], ◌∷◌, ◌++◌, Bool, map, slice_index, slice_index_or}
use Rattle.std.specs.List.{flat_map, range_with_len}
use Rattle.des.specs.Bits.{bits_of, select}
use Rattle.des_fast.specs.GroupBytes.{byte_order}

-- where the four bits of the entry stand among the last four bits of the byte of its box
abbrev pub entry_order : ℕ → List ℕ
entry_order i =
    slice_index_or (
    (2 ∷ 1 ∷ 4 ∷ 3 ∷ []) ∷ (4 ∷ 2 ∷ 3 ∷ 1 ∷ []) ∷ (4 ∷ 1 ∷ 2 ∷ 3 ∷ []) ∷ (2 ∷ 4 ∷ 1 ∷ 3 ∷ []) ∷
    (1 ∷ 4 ∷ 3 ∷ 2 ∷ []) ∷ (2 ∷ 4 ∷ 3 ∷ 1 ∷ []) ∷ (1 ∷ 2 ∷ 3 ∷ 4 ∷ []) ∷ (2 ∷ 4 ∷ 3 ∷ 1 ∷ []) ∷ []) i []

-- the entry's bits, in their order
abbrev pub entry_bits : ℕ → ℕ → List Bool
entry_bits i byte = select (entry_order i) (bits_of 4 byte)

-- the bits of a word of eight bytes, each with an entry of the later block in its first half and one of the
-- earlier in its second: of the first byte they stand at these indexes, from 0, of the others before them
abbrev pub joined_bits : List ℕ → ℕ → ℕ → List Bool
joined_bits entries earlier later =
    let four = λ (i : ℕ). bits_of 4 (slice_index entries i) in
    flat_map (λ i. four (later - i) ++ four (earlier - i)) (range_with_len 0 8)

-- the positions of the entries of S1 to S8 for the earlier block in such a word
abbrev pub first_entries : List ℕ
first_entries = flat_map (λ i. map (λ position. 8 * i + 4 + position) (entry_order i)) byte_order

-- and for the later block
abbrev pub second_entries : List ℕ
second_entries = map (λ position. position - 4) first_entries
