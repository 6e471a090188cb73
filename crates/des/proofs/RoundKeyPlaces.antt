-- The round keys from the halves C and D, and the places in the two halves, 1 to 28 and 29 to 56, that each takes. What
-- a round key takes from the key itself is in `KeySelections`.
use Rattle.std.proofs.Common.{◌≡◌, ℕ, ◌+◌, ◌-◌, ◌%◌, List, [], ◌∷◌, ◌++◌, Bool, if◌then◌else◌, nat_le, map, length, refl, ap, ◌∙◌, subst, arith, take, length-append}
use Rattle.std.specs.List.{range_with_len}
use Rattle.std.proofs.lemmas.List.{take_at, drop_at, take_all}
use Rattle.des.specs.Bits.{bit, select}
use Rattle.des.specs.Tables.{permuted_choice_2}
use Rattle.des.specs.KeySchedule.{c_half, d_half, rotate, shifts_through, round_key, key_schedule}
use Rattle.des.specs.Laws.Selections.{select-range_with_len}

-- the round key that halves give, rotated left by n places
abbrev pub key_at : List Bool → List Bool → ℕ → List Bool
key_at c d n = select permuted_choice_2 (rotate c n ++ rotate d n)

-- the left shifts before each round key, together, written out so that places compute; `key_schedule-halves` compares
-- them
abbrev pub shifts : List ℕ
shifts = 1 ∷ 2 ∷ 4 ∷ 6 ∷ 8 ∷ 10 ∷ 12 ∷ 14 ∷ 15 ∷ 17 ∷ 19 ∷ 21 ∷ 23 ∷ 25 ∷ 27 ∷ 28 ∷ []

-- the sixteen round keys that halves give
abbrev pub schedule_of_halves : List Bool → List Bool → List (List Bool)
schedule_of_halves c d = map (key_at c d) shifts

-- those of a key are those of its halves
pub key_schedule-halves : (key : List Bool) → key_schedule key ≡ schedule_of_halves (c_half key) (d_half key)
unfolding key_schedule round_key shifts_through
key_schedule-halves key = refl

-- the places of C
abbrev pub c_places : List ℕ
c_places = range_with_len 1 28

-- the places of D
abbrev pub d_places : List ℕ
d_places = range_with_len 29 28

-- the places that a round key takes if the halves are rotated left by n places
abbrev key_places : ℕ → List ℕ
key_places n = map (λ q. if nat_le q 28 then 1 + (q - 1 + n) % 28 else 29 + (q - 29 + n) % 28) permuted_choice_2

-- the places that each of the sixteen takes
abbrev pub schedule_places : List (List ℕ)
schedule_places = map key_places shifts

-- the round keys of halves with a value at each place are the values at the places that they take
pub schedule-placed : (value : ℕ → Bool)
    → schedule_of_halves (map value c_places) (map value d_places) ≡ map (map value) schedule_places
unfolding rotate select
schedule-placed value = refl

-- C is the bits at the places of C
c_placed : (c d : List Bool) → length c ≡ 28 → map (bit (c ++ d)) c_places ≡ c
unfolding select
c_placed c d c_size =
    select-range_with_len 0 28 (c ++ d) (omega (arith, length-append c d)) ∙ take_at c d 28 c_size

-- D is the bits at the places of D
d_placed : (c d : List Bool) → length c ≡ 28 → length d ≡ 28 → map (bit (c ++ d)) d_places ≡ d
unfolding select
d_placed c d c_size d_size =
    select-range_with_len 28 28 (c ++ d) (omega (arith, length-append c d))
    ∙ ap (take 28) (drop_at c d 28 c_size)
    ∙ take_all 28 d (omega arith)

-- what holds of halves with any value at each place holds of all halves
pub from_places : (P : List Bool → List Bool → Type 0)
    → ((value : ℕ → Bool) → P (map value c_places) (map value d_places))
    → (c d : List Bool) → length c ≡ 28 → length d ≡ 28 → P c d
from_places P each c d c_size d_size =
    subst (λ h. P h d) (c_placed c d c_size)
    (subst (λ h. P (map (bit (c ++ d)) c_places) h) (d_placed c d c_size d_size) (each (bit (c ++ d))))

-- and of two pairs of halves
pub from_places_of_two : (P : List Bool → List Bool → List Bool → List Bool → Type 0)
    → ((value other : ℕ → Bool)
    → P (map value c_places) (map value d_places) (map other c_places) (map other d_places))
    → (c d c_other d_other : List Bool) → length c ≡ 28 → length d ≡ 28 → length c_other ≡ 28 → length d_other ≡ 28
    → P c d c_other d_other
from_places_of_two P each c d c_other d_other c_size d_size c_other_size d_other_size =
    from_places (λ c d. P c d c_other d_other)
    (λ value.
    from_places (P (map value c_places) (map value d_places)) (each value) c_other d_other c_other_size d_other_size)
    c d c_size d_size
