-- The round keys of all rounds at once: for each place of a round key a row of sixteen bits, one for
-- each round, and the rows transposed.
use Rattle.std.specs.Prelude.{ℕ, ◌+◌, ◌-◌, ◌*◌, ◌/◌, ◌%◌, ◌^◌, ◌==◌, if◌then◌else◌, List, [], ◌∷◌, map, slice_index_or, bit_and, bit_xor}
use Rattle.std.specs.List.{range_with_len}

-- a half C or D of 28 bits, with each second bit, from the second on, exchanged for that 14 places
-- before or after it, and after all 28 the first 16 once more: 44 bits
abbrev pub alternating : ℕ → ℕ
alternating half =
    let opposite = bit_xor (half * 2 ^ 14 % 2 ^ 64) (half / 2 ^ 14) in
    let mixed = bit_xor (bit_and half 0x000000000aaaaaaa) (bit_and opposite 0x0000000005555555) in
    bit_xor (mixed * 2 ^ 16 % 2 ^ 64) (mixed / 2 ^ 12)

-- four windows of sixteen bits side by side, of C, D, C and D, each from a place on that counts from
-- 0; no places make zero. C stands 16 bits higher than D
abbrev pub windows : ℕ → ℕ → List ℕ → ℕ
windows c d [] = 0
windows c d (place ∷ places) =
    let second = slice_index_or places 0 0 in
    let third = slice_index_or places 1 0 in
    let fourth = slice_index_or places 2 0 in
    bit_xor (bit_xor (bit_xor
    (bit_and (c * 2 ^ (4 + place) % 2 ^ 64) 0xffff000000000000)
    (bit_and (d * 2 ^ (4 + second) % 2 ^ 64) 0x0000ffff00000000))
    (bit_and (c / 2 ^ (28 - third)) 0x00000000ffff0000))
    (bit_and (d / 2 ^ (28 - fourth)) 0x000000000000ffff)

-- the places of the windows of each row: of the groups 3, 7, 4 and 8, from the last bit of a group to
-- its first, and two rows of zeros; then of the groups 1, 5, 2 and 6
abbrev pub window_places : List (List ℕ)
window_places =
    (21 ∷ 24 ∷ 15 ∷ 17 ∷ []) ∷
    (11 ∷ 19 ∷ 12 ∷ 0 ∷ []) ∷
    (17 ∷ 13 ∷ 5 ∷ 21 ∷ []) ∷
    (25 ∷ 10 ∷ 26 ∷ 7 ∷ []) ∷
    (18 ∷ 20 ∷ 6 ∷ 27 ∷ []) ∷
    (22 ∷ 1 ∷ 1 ∷ 3 ∷ []) ∷
    [] ∷ [] ∷
    (4 ∷ 26 ∷ 23 ∷ 5 ∷ []) ∷
    (0 ∷ 18 ∷ 20 ∷ 4 ∷ []) ∷
    (9 ∷ 8 ∷ 19 ∷ 16 ∷ []) ∷
    (10 ∷ 2 ∷ 14 ∷ 22 ∷ []) ∷
    (16 ∷ 9 ∷ 13 ∷ 25 ∷ []) ∷
    (27 ∷ 12 ∷ 2 ∷ 15 ∷ []) ∷
    [] ∷ [] ∷ []

-- the rows of the halves C and D in the first 56 bits of a word
abbrev pub key_rows : ℕ → List ℕ
key_rows halves =
    let c = alternating (halves / 2 ^ 36) * 2 ^ 16 % 2 ^ 64 in
    let d = alternating (bit_and (halves / 2 ^ 8) 0x000000000fffffff) in
    map (windows c d) window_places

-- the bits of one row under the mask, shifted to the left, exchanged with those of the other
abbrev pub exchanged : ℕ → ℕ → ℕ → ℕ → ℕ → ℕ
exchanged distance mask first second n =
    let differing = bit_and (bit_xor (first / 2 ^ distance) second) mask in
    if n % 2 == 0 then bit_xor first (differing * 2 ^ distance % 2 ^ 64) else bit_xor second differing

-- rows i and 8 + i, so exchanged, come out as rows 2 * i and 2 * i + 1
abbrev pub exchanged_pairs : ℕ → ℕ → List ℕ → List ℕ
exchanged_pairs distance mask rows =
    map
    (λ n. exchanged distance mask (slice_index_or rows (n / 2) 0) (slice_index_or rows (8 + n / 2) 0) n)
    (range_with_len 0 16)

-- the sixteen words of the rows: bit n of each lane of sixteen, from the last, in row m becomes bit m
-- of that lane in word n
abbrev pub transposed : List ℕ → List ℕ
transposed rows =
    exchanged_pairs 1 0x5555555555555555
    (exchanged_pairs 2 0x3333333333333333
    (exchanged_pairs 4 0x0f0f0f0f0f0f0f0f
    (exchanged_pairs 8 0x00ff00ff00ff00ff rows)))
