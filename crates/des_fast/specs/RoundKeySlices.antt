-- The round keys of a pass by the halves C and D of its key, each of which stands twice in a row.
use Rattle.std.specs.Prelude.{◌≡◌, ℕ, ◌+◌, ◌*◌, ◌/◌, ◌%◌, ◌<◌, List, [], ◌∷◌, ◌++◌, Bool, true, false, map, take, drop, slice_index_or}
use Rattle.des.specs.Bits.{bit, select}
use Rattle.des.specs.Tables.{permuted_choice_2}
use Rattle.des_fast.specs.declared.halves.RoundKey.{RoundKey}
use Rattle.des_fast.specs.HalfBlocks.{round_keys_of}
use Rattle.des_fast.specs.Slices.{InEachBlock, bits_of_slice}
use Rattle.des_fast.specs.declared.slices.keys.PassKeys.{PassKeys}
use Rattle.des_fast.specs.declared.slices.keys.PassSlices.{PassSlices}

-- where the bits of C stand in the words of the last two round keys: 65 to 128 in the sixteenth,
-- which takes them as they are, and 1 to 64 in the fifteenth, which takes them one place on
abbrev pub c_positions : List ℕ
c_positions =
    71 ∷ 112 ∷ 99 ∷ 78 ∷ 72 ∷ 102 ∷ 108 ∷
    80 ∷ 40 ∷ 104 ∷ 69 ∷ 77 ∷ 111 ∷ 67 ∷
    101 ∷ 107 ∷ 68 ∷ 12 ∷ 76 ∷ 110 ∷ 103 ∷
    11 ∷ 75 ∷ 70 ∷ 15 ∷ 79 ∷ 109 ∷ 100 ∷ []

-- and those of D
abbrev pub d_positions : List ℕ
d_positions =
    127 ∷ 115 ∷ 85 ∷ 128 ∷ 119 ∷ 95 ∷ 62 ∷
    126 ∷ 86 ∷ 29 ∷ 93 ∷ 116 ∷ 83 ∷ 124 ∷
    27 ∷ 91 ∷ 118 ∷ 123 ∷ 87 ∷ 120 ∷ 92 ∷
    125 ∷ 117 ∷ 84 ∷ 96 ∷ 24 ∷ 88 ∷ 94 ∷ []

-- where C stands, twice, and where D does, twice
abbrev pub positions_twice : List ℕ
positions_twice = c_positions ++ c_positions ++ d_positions ++ d_positions

-- C twice, and D twice, as they stand in these two words
abbrev pub halves_in : List ℕ → List Bool
halves_in words = select positions_twice (bits_of_slice words)

-- the number, among the 56 bits of C and D, of the one that stands at a place of the 112
abbrev pub place_once : ℕ → ℕ
place_once m = m % 28 + m / 56 * 28

-- of these 56 bits those below n stand in slices at their two places
abbrev pub StandTwiceBelow : {A : Type 0} → ℕ → (ℕ → A → Bool) → List ℕ → ℕ → List A → Type 0
StandTwiceBelow batch bit_of words n halves = InEachBlock batch (λ b. (m : ℕ) → m < 112 → place_once m < n
    → slice_index_or (map (bit_of b) halves) m false ≡ bit (bits_of_slice words) (slice_index_or positions_twice m 0))

-- how far C and D are rotated in each round: the left shifts before it, together (FIPS 46-3, key
-- schedule), from the last to the first in deciphering
abbrev pub rotations : Bool → List ℕ
rotations false =
    1 ∷ 2 ∷ 4 ∷ 6 ∷ 8 ∷ 10 ∷ 12 ∷ 14 ∷ 15 ∷ 17 ∷ 19 ∷ 21 ∷ 23 ∷ 25 ∷ 27 ∷ 28 ∷ []
rotations true =
    28 ∷ 27 ∷ 25 ∷ 23 ∷ 21 ∷ 19 ∷ 17 ∷ 15 ∷ 14 ∷ 12 ∷ 10 ∷ 8 ∷ 6 ∷ 4 ∷ 2 ∷ 1 ∷ []

-- the round key that permuted choice 2 takes of C and D rotated by n places, at most 28: a half
-- that stands twice in a row has its rotation from place n on
abbrev pub round_key_of : List Bool → ℕ → List Bool
round_key_of halves n =
    select permuted_choice_2 (take 28 (drop n halves) ++ take 28 (drop (56 + n) halves))

-- the round keys of a pass, in its order
abbrev pub round_keys_by : List Bool → Bool → List (List Bool)
round_keys_by halves deciphers = map (round_key_of halves) (rotations deciphers)

-- those of a pass that is known by the last two round keys
abbrev pub round_keys_of_pass : PassKeys → List (List Bool)
round_keys_of_pass pass =
    round_keys_by (halves_in (pass.fifteenth.groups ∷ pass.sixteenth.groups ∷ [])) pass.deciphers

-- those that slices hold for a block
abbrev pub round_keys_in : {A : Type 0} → (A → Bool) → PassSlices A → List (List Bool)
round_keys_in bit slices = round_keys_by (map bit slices.halves) slices.deciphers

-- ---- round keys of one key

-- all are those of the halves C and D that the words of the last two have
abbrev pub AreScheduled : List RoundKey → Type 0
AreScheduled round_keys =
    let words = map (λ round_key. round_key.groups) round_keys in
    let last = slice_index_or words 14 0 ∷ slice_index_or words 15 0 ∷ [] in
    round_keys_by (halves_in last) false ≡ round_keys_of round_keys
