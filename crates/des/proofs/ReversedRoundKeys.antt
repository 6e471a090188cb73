-- Halves whose round keys are those of other halves in the opposite order: each pair of halves is the other, rotated by
-- one, and rotation by two changes none.
use Rattle.std.proofs.Common.{◌≡◌, ℕ, ◌+◌, ◌-◌, if◌then◌else◌, nat_le, List, [], ◌∷◌, ◌++◌, Bool, true, map, length, reverse, refl, sym, ap, ap₂, ◌∙◌, arith, take}
use Rattle.std.specs.List.{range_with_len, zip, flat_map}
use Rattle.std.proofs.lemmas.List.{map-id, length-take-le}
use Rattle.des.specs.Bits.{select}
use Rattle.des.specs.KeySchedule.{rotate}
use Rattle.des.proofs.RoundKeyPlaces.{schedule_of_halves, schedule_places, schedule-placed, c_places, d_places, from_places_of_two}
use Rattle.des.proofs.Repeating.{repeated, repeated_from_rotate}
use Rattle.des.proofs.Walks.{Link, IsSameAlong, IsSameAlong-zip, share_walks, walks_same}

-- rotation by two leaves the first halves unchanged, and the others are those, rotated by one
abbrev AreTurned : List Bool → List Bool → List Bool → List Bool → Type 0
AreTurned c d c_other d_other = (rotate c 2 ≡ c) × (rotate d 2 ≡ d) × (c_other ≡ rotate c 1) × (d_other ≡ rotate d 1)

-- the round keys of the other halves are those of the first in the opposite order
abbrev AreReversed : List Bool → List Bool → List Bool → List Bool → Type 0
AreReversed c d c_other d_other = schedule_of_halves c_other d_other ≡ reverse (schedule_of_halves c d)

-- ---- from halves to round keys

-- two bits again and again, fourteen times
abbrev pairs : List Bool → List Bool
pairs front = repeated (λ b. b) 14 front

-- halves of two bits again and again, rotated by one, give the round keys in the opposite order
reversed_pairs : (c d : List Bool) → length c ≡ 2 → length d ≡ 2
    → AreReversed (pairs c) (pairs d) (rotate (pairs c) 1) (rotate (pairs d) 1)
unfolding rotate select
reversed_pairs (first ∷ second ∷ []) (third ∷ fourth ∷ []) c_size d_size = refl
reversed_pairs c d c_size d_size = absurd (omega arith)

-- a half that rotation by two leaves unchanged is its first two bits again and again
pairs_of : (half : List Bool) → length half ≡ 28 → rotate half 2 ≡ half → half ≡ pairs (take 2 half)
pairs_of half size same = repeated_from_rotate (λ b. b) 2 13 half size (same ∙ sym (map-id half))

-- halves that are turned give the round keys in the opposite order
pub reversed_from_turned : (c d c_other d_other : List Bool) → length c ≡ 28 → length d ≡ 28
    → AreTurned c d c_other d_other → AreReversed c d c_other d_other
reversed_from_turned c d c_other d_other c_size d_size turned =
    let c_pairs : c ≡ pairs (take 2 c) = pairs_of c c_size turned.0 in
    let d_pairs : d ≡ pairs (take 2 d) = pairs_of d d_size turned.1 in
    ap₂ schedule_of_halves (turned.2 ∙ ap (λ half. rotate half 1) c_pairs)
    (turned.3 ∙ ap (λ half. rotate half 1) d_pairs)
    ∙ reversed_pairs (take 2 c) (take 2 d) (length-take-le 2 c (omega arith)) (length-take-le 2 d (omega arith))
    ∙ ap reverse (sym (ap₂ schedule_of_halves c_pairs d_pairs))

-- ---- from round keys to halves

-- the places of the first halves are 1 to 56, and those of the others 57 to 112
abbrev beside : (ℕ → Bool) → (ℕ → Bool) → ℕ → Bool
beside value other place = if nat_le place 56 then value place else other (place - 56)

-- the places that the round keys of the other halves take, in their order
abbrev other_places : List ℕ
other_places = map (λ place. 56 + place) (flat_map (λ places. places) schedule_places)

-- the places that the round keys of the first halves take, in the opposite order
abbrev own_places : List ℕ
own_places = flat_map (λ places. places) (reverse schedule_places)

-- from each place of the other halves to the place of the first halves whose bit the round keys have at the same spot
abbrev links : List Link
links = zip other_places own_places

-- a walk through the odd places of C and the even ones of the other C, one through the rest of them, and two for D
abbrev walks : List (List ℕ)
walks =
    (1 ∷ 80 ∷ 11 ∷ 84 ∷ 15 ∷ 76 ∷ 7 ∷ 82 ∷ 13 ∷ 70 ∷ 5 ∷ 58 ∷ 3 ∷ 64 ∷
    9 ∷ 66 ∷ 17 ∷ 68 ∷ 19 ∷ 72 ∷ 21 ∷ 74 ∷ 23 ∷ 78 ∷ 25 ∷ 60 ∷ 27 ∷ 62 ∷ []) ∷
    (2 ∷ 67 ∷ 24 ∷ 65 ∷ 4 ∷ 73 ∷ 22 ∷ 75 ∷ 6 ∷ 77 ∷ 16 ∷ 59 ∷ 18 ∷ 69 ∷
    8 ∷ 71 ∷ 10 ∷ 79 ∷ 12 ∷ 81 ∷ 14 ∷ 83 ∷ 20 ∷ 57 ∷ 26 ∷ 61 ∷ 28 ∷ 63 ∷ []) ∷
    (29 ∷ 88 ∷ 45 ∷ 90 ∷ 43 ∷ 96 ∷ 51 ∷ 98 ∷ 33 ∷ 102 ∷ 41 ∷ 106 ∷ 47 ∷ 112 ∷
    49 ∷ 100 ∷ 35 ∷ 104 ∷ 37 ∷ 108 ∷ 39 ∷ 110 ∷ 53 ∷ 86 ∷ 55 ∷ 92 ∷ 31 ∷ 94 ∷ []) ∷
    (30 ∷ 101 ∷ 32 ∷ 103 ∷ 38 ∷ 109 ∷ 36 ∷ 93 ∷ 42 ∷ 99 ∷ 44 ∷ 111 ∷ 46 ∷ 85 ∷
    34 ∷ 97 ∷ 40 ∷ 105 ∷ 48 ∷ 107 ∷ 50 ∷ 87 ∷ 52 ∷ 89 ∷ 54 ∷ 91 ∷ 56 ∷ 95 ∷ []) ∷ []

-- halves with a value at each place are turned, if the round keys are in the opposite order
turned-placed : (value other : ℕ → Bool)
    → AreReversed (map value c_places) (map value d_places) (map other c_places) (map other d_places)
    → AreTurned (map value c_places) (map value d_places) (map other c_places) (map other d_places)
unfolding rotate
turned-placed value other reversed =
    let same : map (map other) schedule_places ≡ reverse (map (map value) schedule_places) =
    sym (schedule-placed other) ∙ reversed ∙ ap reverse (schedule-placed value) in
    let joined : IsSameAlong (beside value other) links =
    IsSameAlong-zip (beside value other) other_places own_places (ap (flat_map (λ (key : List Bool). key)) same) in
    let equal : (heres theres : List ℕ) → share_walks walks heres theres ≡ true
    → map (beside value other) heres ≡ map (beside value other) theres =
    walks_same (beside value other) links walks joined refl in (
      equal (range_with_len 3 26 ++ (1 ∷ 2 ∷ [])) (range_with_len 1 28) refl,
      equal (range_with_len 31 26 ++ (29 ∷ 30 ∷ [])) (range_with_len 29 28) refl,
      equal (range_with_len 57 28) (range_with_len 2 27 ++ (1 ∷ [])) refl,
      equal (range_with_len 85 28) (range_with_len 30 27 ++ (29 ∷ [])) refl,
    )

-- halves that give the round keys in the opposite order are turned
pub turned_from_reversed : (c d c_other d_other : List Bool) → length c ≡ 28 → length d ≡ 28 → length c_other ≡ 28
    → length d_other ≡ 28 → AreReversed c d c_other d_other → AreTurned c d c_other d_other
turned_from_reversed =
    from_places_of_two (λ c d c_other d_other. AreReversed c d c_other d_other → AreTurned c d c_other d_other)
    turned-placed
