-- Rotations of C and D where each stands twice in a row, and the bits that a round key takes of them.
use Rattle.std.proofs.Common.{◌≡◌, ℕ, ◌+◌, ◌-◌, ◌*◌, ◌/◌, ◌<◌, ◌≤◌, ◌==◌, ◌&&◌, Bool, true, false, List, [], ◌++◌, length, take, drop, nat_lt, get_or, refl, ap, sym, ◌∙◌, arith, length-take-le, inl, inr}
use Rattle.std.proofs.lemmas.Bool.{cases_lt, and_parts, eqb-true, ltb-true, agree_below_at}
use Rattle.std.proofs.lemmas.List.{length-drop, length-map, get_or-map, get_or-take, get_or-drop, get_or_append_left, get_or-append_right}
use Rattle.des.specs.Bits.{bit, select}
use Rattle.des.specs.Tables.{permuted_choice_2}
use Rattle.des_fast.specs.declared.slices.rounds.TheConstants.{PERMUTED_CHOICE_2}
use Rattle.des_fast.specs.RoundKeySlices.{round_key_of, rotations, round_keys_by}

-- a place of the code's table is that of the position of permuted choice 2
pub record IsPlace (k : ℕ) : Type 0 where
  pub position : get_or permuted_choice_2 k 0 - 1 < 56
  pub place : get_or PERMUTED_CHOICE_2 k 0 ≡ (get_or permuted_choice_2 k 0 - 1) + (get_or permuted_choice_2 k 0 - 1) / 28 * 28

pub place-at : (k : ℕ) → k < 48 → IsPlace k
place-at k below =
    let p : ℕ → ℕ = λ i. get_or permuted_choice_2 i 0 - 1 in
    let tests = and_parts _ _ (agree_below_at (λ i. nat_lt (p i) 56 && (get_or PERMUTED_CHOICE_2 i 0 == p i + p i / 28 * 28))
    (λ i. true) 48 k refl below) in
    record { position = ltb-true _ _ tests.0; place = eqb-true _ _ tests.1 }

-- it is within the 112 from any rotation on
pub place_within : (n k size : ℕ) → n ≤ 28 → k < 48 → size ≡ 112 → n + get_or PERMUTED_CHOICE_2 k 0 < size
place_within n k size around below is =
    let at = place-at k below in
    omega (arith, at.position, at.place)

-- so a bit of a round key is that at its place
pub get_or-round_key_of : (halves : List Bool) (n k : ℕ) → length halves ≡ 112 → n ≤ 28 → k < 48
    → get_or (round_key_of halves n) k false ≡ get_or halves (n + get_or PERMUTED_CHOICE_2 k 0) false
unfolding select
get_or-round_key_of halves n k size around below =
    let p : ℕ = get_or permuted_choice_2 k 0 - 1 in
    let is = place-at k below in
    let c : List Bool = take 28 (drop n halves) in
    let d : List Bool = take 28 (drop (56 + n) halves) in
    let width : length c ≡ 28 = length-take-le 28 (drop n halves) (omega (arith, size, length-drop n halves)) in
    let taken : get_or (round_key_of halves n) k false ≡ get_or (c ++ d) p false =
    get_or-map (bit (c ++ d)) permuted_choice_2 k 0 false below in
    taken ∙ elim (cases_lt p 28) [
      | inl low ↦
          get_or_append_left c d false p (omega (arith, width))
          ∙ get_or-take 28 (drop n halves) p false low
          ∙ get_or-drop n halves p false
          ∙ ap (λ (i : ℕ). get_or halves i false) (omega (arith, is.place))
      | inr high ↦
          get_or-append_right c d 28 p false width high
          ∙ get_or-take 28 (drop (56 + n) halves) (p - 28) false (omega (arith, is.position))
          ∙ get_or-drop (56 + n) halves (p - 28) false
          ∙ ap (λ (i : ℕ). get_or halves i false) (omega (arith, is.place, is.position))
    ]

-- there is a rotation for each of sixteen rounds
pub length-rotations : (deciphers : Bool) → length (rotations deciphers) ≡ 16
length-rotations false = refl
length-rotations true = refl

-- so there are sixteen round keys
pub length-round_keys_by : (halves : List Bool) (deciphers : Bool) → length (round_keys_by halves deciphers) ≡ 16
length-round_keys_by halves deciphers =
    length-map (rotations deciphers) (round_key_of halves) ∙ length-rotations deciphers

-- each by its rotation
pub round_keys_by-at : (halves : List Bool) (deciphers : Bool) (places : List ℕ) (i : ℕ) → places ≡ rotations deciphers
    → i < 16 → round_key_of halves (get_or places i 0) ≡ get_or (round_keys_by halves deciphers) i []
round_keys_by-at halves deciphers places i are below =
    ap (λ (list : List ℕ). round_key_of halves (get_or list i 0)) are
    ∙ sym (get_or-map (round_key_of halves) (rotations deciphers) i 0 [] (omega (arith, length-rotations deciphers)))
