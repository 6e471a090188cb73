-- Keys that agree outside parity have the same halves C and D, since permuted choice 1 takes just the positions outside
-- parity, and so the same round keys. Keys with the same round keys agree outside parity, since each bit of C and of D
-- is taken for some round key.
use Rattle.std.proofs.Common.{◌≡◌, ℕ, ◌%◌, ◌≤◌, ◌==◌, ◌&&◌, not, nat_le, Bool, true, List, [], ◌∷◌, ◌++◌, map, take, drop, refl, sym, ap, ap₂, ◌∙◌, arith, inl, inr, take-append-drop}
use Rattle.std.specs.List.{list_all, flat_map}
use Rattle.std.proofs.lemmas.List.{map-append, take-map, drop-map}
use Rattle.std.proofs.lemmas.Bool.{and_parts, or_cases, eqb-true, ne_eqb, not_from_false, agree_below_at}
use Rattle.std.proofs.lemmas.Bool.Decides.{nat_tests}
use Rattle.des.specs.Bits.{bit, bits_of_bytes, select}
use Rattle.des.specs.Tables.{permuted_choice_1}
use Rattle.des.specs.KeySchedule.{c_half, d_half, rotate, key_schedule}
use Rattle.des.specs.Parity.{AgreeOutsideParity}
use Rattle.des.proofs.Places.{is_among}
use Rattle.des.proofs.RoundKeys.{length-c_half, length-d_half}
use Rattle.des.proofs.RoundKeyPlaces.{schedule_of_halves, key_schedule-halves, schedule_places, schedule-placed, c_places, d_places, from_places_of_two}

-- positions rotated to the left by n places
abbrev pub rotated : List ℕ → ℕ → List ℕ
rotated positions n = drop n positions ++ take n positions

-- a selection, rotated, is the selection by the positions, rotated
pub rotate-select : (positions : List ℕ) (bits : List Bool) (n : ℕ)
    → rotate (select positions bits) n ≡ select (rotated positions n) bits
unfolding rotate select
rotate-select positions bits n =
    ap₂ ◌++◌ (drop-map (bit bits) n positions) (take-map (bit bits) n positions)
    ∙ sym (map-append (bit bits) (drop n positions) (take n positions))

-- ---- from agreement to round keys

-- whether each is a position outside parity
abbrev are_outside_parity : List ℕ → Bool
are_outside_parity positions =
    list_all (λ position. nat_le 1 position && nat_le position 64 && not (position % 8 == 0)) positions

-- keys that agree outside parity have the same bits at positions outside it
select-agreeing : (key other positions : List ℕ) → AgreeOutsideParity key other → are_outside_parity positions ≡ true
    → select positions (bits_of_bytes key) ≡ select positions (bits_of_bytes other)
unfolding select
select-agreeing key other [] agree outside = refl
select-agreeing key other (position ∷ positions) agree outside =
    let parts : (1 ≤ position) × (position ≤ 64) × ¬ (position % 8 ≡ 0) × (are_outside_parity positions ≡ true) =
    grind (arith, nat_tests) in
    ap₂ ◌∷◌ (agree position parts.0 parts.1 parts.2) (select-agreeing key other positions agree parts.3)

-- they have the same halves C and D
pub halves-agreeing : (key other : List ℕ) → AgreeOutsideParity key other
    → (c_half (bits_of_bytes key) ≡ c_half (bits_of_bytes other))
    × (d_half (bits_of_bytes key) ≡ d_half (bits_of_bytes other))
unfolding c_half d_half
halves-agreeing key other agree =
    let chosen = select-agreeing key other permuted_choice_1 agree refl in
    (ap (take 28) chosen, ap (drop 28) chosen)

-- and so the same round keys
pub key_schedule-agreeing : (key other : List ℕ) → AgreeOutsideParity key other
    → key_schedule (bits_of_bytes key) ≡ key_schedule (bits_of_bytes other)
key_schedule-agreeing key other agree =
    let halves = halves-agreeing key other agree in
    key_schedule-halves (bits_of_bytes key) ∙ ap₂ schedule_of_halves halves.0 halves.1
    ∙ sym (key_schedule-halves (bits_of_bytes other))

-- ---- from round keys to agreement

-- two functions with the same values along a list of positions agree at each of them
same_among : (f g : ℕ → Bool) (positions : List ℕ) → map f positions ≡ map g positions
    → (position : ℕ) → is_among positions position ≡ true → f position ≡ g position
same_among f g [] same position among = absurd (cc)
same_among f g (first ∷ positions) same position among =
    let here : f first ≡ g first = cc in
    let rest : map f positions ≡ map g positions = cc in
    elim (or_cases (first == position) (is_among positions position) among) [
      | inl found ↦ rw (← eqb-true first position found) here
      | inr later ↦ same_among f g positions rest position later
    ]

-- and along a list of some of them
map-among : (f g : ℕ → Bool) (positions some : List ℕ) → map f positions ≡ map g positions
    → list_all (is_among positions) some ≡ true → map f some ≡ map g some
map-among f g positions [] same among = refl
map-among f g positions (position ∷ some) same among =
    let parts = and_parts _ _ among in
    ap₂ ◌∷◌ (same_among f g positions same position parts.0) (map-among f g positions some same parts.1)

-- permuted choice 1 takes a position up to 64 just if eight does not divide it
is_among-permuted_choice_1 : (position : ℕ) → position ≤ 64
    → is_among permuted_choice_1 position ≡ not (position % 8 == 0)
is_among-permuted_choice_1 position within =
    agree_below_at (is_among permuted_choice_1) (λ n. not (n % 8 == 0)) 65 position refl (omega arith)

-- keys with the same halves C and D agree outside parity
pub AgreeOutsideParity-halves : (key other : List ℕ) → c_half (bits_of_bytes key) ≡ c_half (bits_of_bytes other)
    → d_half (bits_of_bytes key) ≡ d_half (bits_of_bytes other) → AgreeOutsideParity key other
unfolding c_half d_half select
AgreeOutsideParity-halves key other same_c same_d position from within outside =
    let chosen : List ℕ → List Bool = λ bytes. select permuted_choice_1 (bits_of_bytes bytes) in
    same_among (bit (bits_of_bytes key)) (bit (bits_of_bytes other)) permuted_choice_1
    (sym (take-append-drop 28 (chosen key)) ∙ ap₂ ◌++◌ same_c same_d ∙ take-append-drop 28 (chosen other)) position
    (is_among-permuted_choice_1 position within ∙ not_from_false (position % 8 == 0) (ne_eqb (position % 8) 0 outside))

-- halves with the same round keys are the same
abbrev AreAlike : List Bool → List Bool → List Bool → List Bool → Type 0
AreAlike c d c_other d_other =
    schedule_of_halves c d ≡ schedule_of_halves c_other d_other → (c ≡ c_other) × (d ≡ d_other)

-- so it is with a value at each place
AreAlike-placed : (value other : ℕ → Bool)
    → AreAlike (map value c_places) (map value d_places) (map other c_places) (map other d_places)
AreAlike-placed value other same =
    let places : List ℕ = flat_map (λ key. key) schedule_places in
    let taken : map value places ≡ map other places =
    ap (flat_map (λ (key : List Bool). key)) (sym (schedule-placed value) ∙ same ∙ schedule-placed other) in
    (map-among value other places c_places taken refl, map-among value other places d_places taken refl)

-- keys with the same round keys agree outside parity
pub AgreeOutsideParity-key_schedule : (key other : List ℕ)
    → key_schedule (bits_of_bytes key) ≡ key_schedule (bits_of_bytes other) → AgreeOutsideParity key other
AgreeOutsideParity-key_schedule key other same =
    let a : List Bool = bits_of_bytes key in
    let b : List Bool = bits_of_bytes other in
    let halves =
    from_places_of_two AreAlike AreAlike-placed (c_half a) (d_half a) (c_half b) (d_half b)
    (length-c_half a) (length-d_half a) (length-c_half b) (length-d_half b)
    (sym (key_schedule-halves a) ∙ same ∙ key_schedule-halves b) in
    AgreeOutsideParity-halves key other halves.0 halves.1
