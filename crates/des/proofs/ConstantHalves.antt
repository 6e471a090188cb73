-- Halves whose round keys are all equal are constant.
use Rattle.std.proofs.Common.{◌≡◌, ℕ, List, [], ◌∷◌, ◌++◌, Bool, map, length, refl, sym, ap, ◌∙◌, replicate}
use Rattle.std.specs.List.{range_with_len, slice_index_or, zip}
use Rattle.std.proofs.lemmas.List.Elements.{All-append}
use Rattle.des.specs.KeySchedule.{rotate}
use Rattle.des.proofs.RoundKeyPlaces.{schedule_of_halves, schedule_places, schedule-placed, c_places, d_places, from_places}
use Rattle.des.proofs.Walks.{Link, IsSameAlong, IsSameAlong-zip, walks_same}

-- the places that a round key takes, by its number from 0
abbrev places : ℕ → List ℕ
places n = slice_index_or schedule_places n []

-- from each place that the first round key takes to the one that the second takes, and from the eighth to the ninth
abbrev links : List Link
links = zip (places 0) (places 1) ++ zip (places 7) (places 8)

-- a walk through the places of C, and one through those of D
abbrev walks : List (List ℕ)
walks = (range_with_len 24 5 ++ range_with_len 1 23) ∷ d_places ∷ []

-- both halves are unchanged by rotation by n
abbrev pub AreUnchanged : ℕ → List Bool → List Bool → Type 0
AreUnchanged n c d = (rotate c n ≡ c) × (rotate d n ≡ d)

-- all bits of each half are equal
abbrev AreConstant : List Bool → List Bool → Type 0
AreConstant c d = AreUnchanged 1 c d

-- halves with a value at each place are constant, if their round keys are copies of one
constant-placed : (round_key : List Bool) (value : ℕ → Bool)
    → schedule_of_halves (map value c_places) (map value d_places) ≡ replicate 16 round_key
    → AreConstant (map value c_places) (map value d_places)
unfolding rotate
constant-placed round_key value same =
    let at : (n : ℕ)
    → slice_index_or (map (map value) schedule_places) n [] ≡ slice_index_or (replicate 16 round_key) n [] =
    λ n. ap (λ keys. slice_index_or keys n []) (sym (schedule-placed value) ∙ same) in
    let joined : IsSameAlong value links =
    All-append (λ link. value link.0 ≡ value link.1) (zip (places 0) (places 1)) (zip (places 7) (places 8))
    (IsSameAlong-zip value (places 0) (places 1) (at 0 ∙ sym (at 1)))
    (IsSameAlong-zip value (places 7) (places 8) (at 7 ∙ sym (at 8))) in (
      walks_same value links walks joined refl (range_with_len 2 27 ++ (1 ∷ [])) c_places refl,
      walks_same value links walks joined refl (range_with_len 30 27 ++ (29 ∷ [])) d_places refl,
    )

-- halves whose round keys are copies of one are unchanged by rotation by one
pub constant_halves : (round_key c d : List Bool) → length c ≡ 28 → length d ≡ 28
    → schedule_of_halves c d ≡ replicate 16 round_key → AreUnchanged 1 c d
constant_halves round_key =
    from_places (λ c d. schedule_of_halves c d ≡ replicate 16 round_key → AreConstant c d) (constant-placed round_key)
