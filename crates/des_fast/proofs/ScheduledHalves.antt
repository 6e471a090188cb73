-- The round keys of a key are those of the halves C and D that stand in the last two of them.
use Rattle.std.proofs.Common.{◌≡◌, ℕ, ◌<◌, List, [], ◌∷◌, ◌++◌, Bool, true, false, length, map, get_or, refl, ap, ap₂, sym, ◌∙◌, arith}
use Rattle.std.proofs.lemmas.List.{get_or-map}
use Rattle.des.specs.Bits.{bits_of_word, select}
use Rattle.des.specs.KeySchedule.{c_half, d_half, rotate, key_schedule}
use Rattle.des.proofs.RoundKeys.{length-c_half, length-d_half}
use Rattle.des.proofs.RoundKeyPlaces.{schedule_of_halves, key_schedule-halves, from_places}
use Rattle.des_fast.specs.declared.halves.RoundKey.{RoundKey}
use Rattle.des_fast.specs.Groups.{positions_in_word}
use Rattle.des_fast.specs.HalfBlocks.{round_keys_of}
use Rattle.des_fast.specs.RoundKeySlices.{positions_twice, halves_in, round_keys_by, AreScheduled}
use Rattle.des_fast.specs.SideBySide.{in_direction}
use Rattle.des_fast.proofs.GroupWords.{Holds-groups}
use Rattle.des_fast.proofs.RoundKeysByPlace.{round_keys_of-at}

-- ---- the last two round keys

-- the bits of the words of two round keys
abbrev bits_of_two : List Bool → List Bool → List Bool
bits_of_two fifteenth sixteenth = select positions_in_word fifteenth ++ (select positions_in_word sixteenth ++ [])

-- the round keys that halves give are those of the halves in the last two, whatever the bits are
schedule-from_last : (c d : List Bool) → length c ≡ 28 → length d ≡ 28
    → let keys = schedule_of_halves c d in
    round_keys_by (select positions_twice (bits_of_two (get_or keys 14 []) (get_or keys 15 []))) false ≡ keys
unfolding rotate select
schedule-from_last = from_places
    (λ c d. let keys = schedule_of_halves c d in
    round_keys_by (select positions_twice (bits_of_two (get_or keys 14 []) (get_or keys 15 []))) false ≡ keys)
    (λ value. refl)

-- so are any round keys that are those of a key
pub AreScheduled-schedule : (round_keys : List RoundKey) (key : List Bool) → length round_keys ≡ 16
    → round_keys_of round_keys ≡ key_schedule key → AreScheduled round_keys
AreScheduled-schedule round_keys key size are =
    let keys : List (List Bool) = schedule_of_halves (c_half key) (d_half key) in
    let same : round_keys_of round_keys ≡ keys = are ∙ key_schedule-halves key in
    let none : RoundKey = record { groups = 0; of_groups = refl } in
    let word : (i : ℕ) → i < 16 → bits_of_word (get_or (map (λ round_key. round_key.groups) round_keys) i 0)
    ≡ select positions_in_word (get_or keys i []) =
    λ i below.
    ap bits_of_word (get_or-map (λ round_key. round_key.groups) round_keys i none 0 (omega arith))
    ∙ Holds-groups (get_or round_keys i none).groups (get_or round_keys i none).of_groups
    ∙ ap (select positions_in_word)
    (round_keys_of-at round_keys i none (omega arith) ∙ ap (λ ks. get_or ks i []) same) in
    ap₂ (λ fifteenth sixteenth. round_keys_by (select positions_twice (fifteenth ++ (sixteenth ++ []))) false)
    (word 14 (omega arith)) (word 15 (omega arith))
    ∙ schedule-from_last (c_half key) (d_half key) (length-c_half key) (length-d_half key)
    ∙ sym same

-- ---- passes

-- the round keys of halves, in either direction
pub round_keys_by-direction : (deciphers : Bool) (halves : List Bool)
    → round_keys_by halves deciphers ≡ in_direction deciphers (round_keys_by halves false)
round_keys_by-direction false halves = refl
round_keys_by-direction true halves = refl

-- those of a pass are the round keys of the halves in its last two
pub keys_of-last : (deciphers : Bool) (round_keys : List RoundKey) (d e : RoundKey) → length round_keys ≡ 16
    → AreScheduled round_keys
    → round_keys_by (halves_in ((get_or round_keys 14 d).groups ∷ (get_or round_keys 15 e).groups ∷ [])) deciphers
    ≡ in_direction deciphers (round_keys_of round_keys)
keys_of-last deciphers round_keys d e size scheduled =
    let word : RoundKey → ℕ = λ round_key. round_key.groups in
    round_keys_by-direction deciphers _
    ∙ ap (in_direction deciphers)
    (ap₂ (λ fifteenth sixteenth. round_keys_by (halves_in (fifteenth ∷ sixteenth ∷ [])) false)
    (sym (get_or-map word round_keys 14 d 0 (omega arith))) (sym (get_or-map word round_keys 15 e 0 (omega arith)))
    ∙ scheduled)
