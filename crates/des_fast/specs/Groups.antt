-- Words of groups: 48 bits in eight groups of six, each in the last six bits of a byte of a word,
-- with zeros before it. The groups 1, 3, 5 and 7 stand in bytes 1 to 4, the groups 2, 4, 6 and 8 in
-- bytes 5 to 8.
use Rattle.std.specs.Prelude.{◌≡◌, ℕ, ◌+◌, ◌-◌, ◌*◌, List, [], ◌∷◌, ◌++◌, Bool, bit_and}
use Rattle.std.specs.List.{flat_map, range_with_len}
use Rattle.des.specs.Bits.{bits_of_word, number_of, zeros, select}
use Rattle.des.specs.Tables.{expansion}

-- the first positions of the groups in the 64 bits of a word
abbrev group_starts : List ℕ
group_starts = 3 ∷ 35 ∷ 11 ∷ 43 ∷ 19 ∷ 51 ∷ 27 ∷ 59 ∷ []

-- and all their positions, six a group
abbrev pub group_positions : List ℕ
group_positions = flat_map (λ start. range_with_len start 6) group_starts

-- the bits of such a word by their positions in the 48, a byte after another: 49 is past the last,
-- and stands for a zero
abbrev pub positions_in_word : List ℕ
positions_in_word =
    flat_map (λ first. 49 ∷ 49 ∷ range_with_len first 6) (1 ∷ 13 ∷ 25 ∷ 37 ∷ 7 ∷ 19 ∷ 31 ∷ 43 ∷ [])

-- the word whose groups are these 48 bits
abbrev pub word_of_groups : List Bool → ℕ
word_of_groups bits = number_of (select positions_in_word bits)

-- the middle four positions of each group: those of a half block, if the groups are those of its
-- expansion E
abbrev pub half_positions : List ℕ
half_positions = flat_map (λ start. range_with_len (start + 1) 4) group_starts

-- the 48 bits in the groups of a word
abbrev pub bits_of_groups : ℕ → List Bool
bits_of_groups word = select group_positions (bits_of_word word)

-- the half block whose expansion a word holds
abbrev pub half_of : ℕ → List Bool
half_of word = select half_positions (bits_of_word word)

-- every other bit of the word is zero
abbrev pub IsOfGroups : ℕ → Type 0
IsOfGroups word = bit_and word 0x3f3f3f3f3f3f3f3f ≡ word

-- the groups are those of the expansion E of a half block
pub record IsExpansion (word : ℕ) : Type 0 where
  pub of_groups : IsOfGroups word
  pub expanded : bits_of_groups word ≡ select expansion (half_of word)

-- ---- four bits each

-- four bits in place n, from 1, of several places for four bits each, with zeros in the others
abbrev pub in_place : ℕ → ℕ → List Bool → List Bool
in_place places n bits = zeros (4 * (n - 1)) ++ bits ++ zeros (4 * (places - n))
