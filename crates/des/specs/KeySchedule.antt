-- The key schedule KS (FIPS 46-3, key schedule): each round key, taken from the key.
use Rattle.std.specs.Prelude.{ℕ, List, [], ◌∷◌, ◌++◌, Bool, map, take, drop, sum}
use Rattle.des.specs.Bits.{select}
use Rattle.des.specs.Tables.{permuted_choice_1, permuted_choice_2, left_shifts}

-- C: the first 28 bits that permuted choice 1 takes from the key
unfoldable pub c_half : List Bool → List Bool
c_half key = take 28 (select permuted_choice_1 key)

-- D: the second 28 bits
unfoldable pub d_half : List Bool → List Bool
d_half key = drop 28 (select permuted_choice_1 key)

-- a half rotated left by n places, of at most its length
unfoldable pub rotate : List Bool → ℕ → List Bool
rotate half n = drop n half ++ take n half

-- the left shifts before round key i, together: the standard shifts C and D before each round key
-- in turn, and K(i) takes them as they are after the first i shifts
unfoldable pub shifts_through : ℕ → ℕ
shifts_through i = sum (take i left_shifts)

-- K(i), for i from 1 to 16
unfoldable pub round_key : List Bool → ℕ → List Bool
round_key key i =
    select permuted_choice_2
    (rotate (c_half key) (shifts_through i) ++ rotate (d_half key) (shifts_through i))

-- K(1) to K(16)
unfoldable pub key_schedule : List Bool → List (List Bool)
key_schedule key =
    map (round_key key) (1 ∷ 2 ∷ 3 ∷ 4 ∷ 5 ∷ 6 ∷ 7 ∷ 8 ∷ 9 ∷ 10 ∷ 11 ∷ 12 ∷ 13 ∷ 14 ∷ 15 ∷ 16 ∷ [])
