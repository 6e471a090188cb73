-- The rows of the key schedule are linear maps of the halves C and D, and so the words that they make, transposed, are
-- known by 64 words with one bit each: they hold the round keys.
use Rattle.std.proofs.Common.{◌≡◌, ℕ, ◌+◌, ◌*◌, ◌-◌, ◌/◌, ◌%◌, ◌^◌, ◌<◌, ◌==◌, if◌then◌else◌, Bool, true, false, List, [], ◌∷◌, ◌++◌, length, map, nat_lt, slice_index_or, bit_and, bit_xor, refl, ap, ap₂, sym, ◌∙◌, arith, append-nil, zero-add, lit≤}
use Rattle.std.proofs.lemmas.Nat.{and_le_r, xor_lt, mod_below}
use Rattle.std.specs.List.{range_with_len}
use Rattle.std.proofs.Math.ListN.{get_or-map}
use Rattle.std.proofs.lemmas.List.FromFn.{get_or-map-range_with_len}
use Rattle.std.proofs.lemmas.Bool.{ltb-true, agree_below_at}
use Rattle.des.specs.Bits.{bits_of, bits_of_word, select, zeros}
use Rattle.des.specs.Tables.{permuted_choice_1, permuted_choice_2}
use Rattle.des.specs.KeySchedule.{round_key}
use Rattle.des.specs.Laws.BitLists.{length-bits_of}
use Rattle.des.specs.Laws.Selections.{composed, length-select, select-select}
use Rattle.des.proofs.LinearWords.{IsLinear, IsLinear-id, IsLinear-xor, IsLinear-shl, IsLinear-shr, IsLinear-mask, units, select-from_units}
use Rattle.des_fast.specs.declared.schedule.TheConstants.{ROWS_OF_ROUNDS}
use Rattle.des_fast.specs.Groups.{positions_in_word, bits_of_groups, IsOfGroups}
use Rattle.des_fast.specs.RoundKeyRows.{alternating, windows, window_places, key_rows, exchanged, exchanged_pairs, transposed}
use Rattle.des_fast.proofs.GroupWords.{Holds, IsOfGroups-Holds, bits_of_groups-Holds}
use Rattle.des_fast.proofs.RoundKeyPositions.{halves_positions, round_key-halves}

-- ---- the rows are linear

-- a map with the values of a linear map is linear
IsLinear-same : {f g : ℕ → ℕ} → ((x : ℕ) → f x ≡ g x) → IsLinear g → IsLinear f
IsLinear-same {f} {g} same linear =
    record { sums = λ a b. same (bit_xor a b) ∙ linear.sums a b ∙ sym (ap₂ bit_xor (same a) (same b)) }

-- one of two linear maps is linear
IsLinear-if : {f g : ℕ → ℕ} → (first : Bool) → IsLinear f → IsLinear g → IsLinear (λ x. if first then f x else g x)
IsLinear-if true first second = first
IsLinear-if false first second = second

IsLinear-alternating : {f : ℕ → ℕ} → IsLinear f → IsLinear (λ x. alternating (f x))
IsLinear-alternating {f} linear =
    let opposite = IsLinear-xor (IsLinear-shl 14 linear) (IsLinear-shr 14 linear) in
    let mixed = IsLinear-xor (IsLinear-mask 0x000000000aaaaaaa linear) (IsLinear-mask 0x0000000005555555 opposite) in
    IsLinear-xor (IsLinear-shl 16 mixed) (IsLinear-shr 12 mixed)

IsLinear-windows : {f g : ℕ → ℕ} → (places : List ℕ) → IsLinear f → IsLinear g
    → IsLinear (λ x. windows (f x) (g x) places)
IsLinear-windows [] c d = record { sums = λ a b. refl }
IsLinear-windows (place ∷ places) c d =
    IsLinear-xor (IsLinear-xor (IsLinear-xor
    (IsLinear-mask 0xffff000000000000 (IsLinear-shl _ c))
    (IsLinear-mask 0x0000ffff00000000 (IsLinear-shl _ d)))
    (IsLinear-mask 0x00000000ffff0000 (IsLinear-shr _ c)))
    (IsLinear-mask 0x000000000000ffff (IsLinear-shr _ d))

-- they are words
windows-lt : (c d : ℕ) (places : List ℕ) → windows c d places < 2 ^ 64
windows-lt c d [] = lit≤ tt
windows-lt c d (place ∷ places) =
    let w : ℕ = c * 2 ^ (4 + place) % 2 ^ 64 in
    let x : ℕ = d * 2 ^ (4 + slice_index_or places 0 0) % 2 ^ 64 in
    let y : ℕ = c / 2 ^ (28 - slice_index_or places 1 0) in
    let z : ℕ = d / 2 ^ (28 - slice_index_or places 2 0) in
    let first : bit_and w 0xffff000000000000 < 2 ^ 64 = omega (arith, and_le_r w 0xffff000000000000) in
    let second : bit_and x 0x0000ffff00000000 < 2 ^ 64 = omega (arith, and_le_r x 0x0000ffff00000000) in
    let third : bit_and y 0x00000000ffff0000 < 2 ^ 64 = omega (arith, and_le_r y 0x00000000ffff0000) in
    let fourth : bit_and z 0x000000000000ffff < 2 ^ 64 = omega (arith, and_le_r z 0x000000000000ffff) in
    xor_lt 64 _ _ (xor_lt 64 _ _ (xor_lt 64 _ _ first second) third) fourth

lt-if : {a b n : ℕ} → (first : Bool) → a < n → b < n → (if first then a else b) < n
lt-if true first second = first
lt-if false first second = second

-- each of sixteen rows is a linear map to words
record AreLinear (rows : ℕ → List ℕ) : Type 0 where
  row : (n : ℕ) → n < 16 → IsLinear (λ x. slice_index_or (rows x) n 0)
  fits : (n x : ℕ) → n < 16 → slice_index_or (rows x) n 0 < 2 ^ 64

AreLinear-key_rows : AreLinear key_rows
AreLinear-key_rows =
    let c : ℕ → ℕ = λ x. alternating (x / 2 ^ 36) * 2 ^ 16 % 2 ^ 64 in
    let d : ℕ → ℕ = λ x. alternating (bit_and (x / 2 ^ 8) 0x000000000fffffff) in
    let is_row : (n x : ℕ) → slice_index_or (key_rows x) n 0 ≡ windows (c x) (d x) (slice_index_or window_places n []) =
    λ n x. get_or-map (windows (c x) (d x)) window_places n [] in
    let c_linear = IsLinear-shl 16 (IsLinear-alternating (IsLinear-shr 36 IsLinear-id)) in
    let d_linear = IsLinear-alternating (IsLinear-mask 0x000000000fffffff (IsLinear-shr 8 IsLinear-id)) in
    record {
      row = λ n below.
          IsLinear-same (is_row n) (IsLinear-windows (slice_index_or window_places n []) c_linear d_linear);
      fits = λ n x below. rw (is_row n x) (windows-lt (c x) (d x) (slice_index_or window_places n []));
    }

AreLinear-exchanged_pairs : {rows : ℕ → List ℕ} → (distance mask : ℕ) → mask < 2 ^ 64 → AreLinear rows
    → AreLinear (λ x. exchanged_pairs distance mask (rows x))
AreLinear-exchanged_pairs {rows} distance mask mask_fits linear =
    let first : ℕ → ℕ → ℕ = λ x n. slice_index_or (rows x) (n / 2) 0 in
    let second : ℕ → ℕ → ℕ = λ x n. slice_index_or (rows x) (8 + n / 2) 0 in
    let is_row : (n x : ℕ) → n < 16
    → slice_index_or (exchanged_pairs distance mask (rows x)) n 0 ≡ exchanged distance mask (first x n) (second x n) n =
    λ n x below. get_or-map-range_with_len (λ m. exchanged distance mask (first x m) (second x m) m) 0 16 n n 0 below
    (zero-add n) in
    record {
      row = λ n below.
          let from_first = linear.row (n / 2) (omega arith) in
          let from_second = linear.row (8 + n / 2) (omega arith) in
          let differing = IsLinear-mask mask (IsLinear-xor (IsLinear-shr distance from_first) from_second) in
          IsLinear-same (λ x. is_row n x below)
          (IsLinear-if (n % 2 == 0) (IsLinear-xor from_first (IsLinear-shl distance differing))
          (IsLinear-xor from_second differing));
      fits = λ n x below.
          let first_fits : first x n < 2 ^ 64 = linear.fits (n / 2) x (omega arith) in
          let second_fits : second x n < 2 ^ 64 = linear.fits (8 + n / 2) x (omega arith) in
          let differing : ℕ = bit_and (bit_xor (first x n / 2 ^ distance) (second x n)) mask in
          let differing_fits : differing < 2 ^ 64 =
          omega (arith, mask_fits, and_le_r (bit_xor (first x n / 2 ^ distance) (second x n)) mask) in
          let moved_fits : differing * 2 ^ distance % 2 ^ 64 < 2 ^ 64 =
          mod_below (differing * 2 ^ distance) (2 ^ 64) (omega arith) in
          rw (is_row n x below)
          (lt-if (n % 2 == 0) (xor_lt 64 (first x n) _ first_fits moved_fits)
          (xor_lt 64 (second x n) differing second_fits differing_fits));
    }

AreLinear-transposed : AreLinear (λ x. transposed (key_rows x))
AreLinear-transposed =
    AreLinear-exchanged_pairs 1 0x5555555555555555 (lit≤ tt)
    (AreLinear-exchanged_pairs 2 0x3333333333333333 (lit≤ tt)
    (AreLinear-exchanged_pairs 4 0x0f0f0f0f0f0f0f0f (lit≤ tt)
    (AreLinear-exchanged_pairs 8 0x00ff00ff00ff00ff (lit≤ tt) AreLinear-key_rows)))

-- ---- what they hold

-- no row of a round is past the last
ROWS_OF_ROUNDS-lt : (i : ℕ) → i < 16 → slice_index_or ROWS_OF_ROUNDS i 0 < 16
ROWS_OF_ROUNDS-lt i below =
    let test : ℕ → Bool = λ j. nat_lt (slice_index_or ROWS_OF_ROUNDS j 0) 16 in
    ltb-true (slice_index_or ROWS_OF_ROUNDS i 0) 16 (agree_below_at test (λ j. true) 16 i refl below)

-- the word of round i, from 0
abbrev word_of : ℕ → ℕ → ℕ
word_of i halves = slice_index_or (transposed (key_rows halves)) (slice_index_or ROWS_OF_ROUNDS i 0) 0

-- the bits of the words of all rounds, for zero and the words with one bit
abbrev words_of_units : ℕ → List (List Bool)
words_of_units i = map (λ u. bits_of_word (word_of i u)) units

-- and the bits that round i should take
abbrev positions : ℕ → List ℕ
positions i = composed 65 positions_in_word (halves_positions (i + 1))

abbrev selections_of_units : ℕ → List (List Bool)
selections_of_units i = map (λ u. select (positions i) (bits_of_word u) ++ zeros 0) units

same_of_units : map words_of_units (range_with_len 0 16) ≡ map selections_of_units (range_with_len 0 16)
unfolding bits_of select
same_of_units = refl

-- the word of a round holds the bits that the round takes
Holds-word_of : (i halves : ℕ) → i < 16 → halves < 2 ^ 64
    → Holds (word_of i halves) (select (halves_positions (i + 1)) (bits_of_word halves))
Holds-word_of i halves below fits =
    let words = get_or-map-range_with_len words_of_units 0 16 i i [] below (zero-add i) in
    let selections = get_or-map-range_with_len selections_of_units 0 16 i i [] below (zero-add i) in
    let same : words_of_units i ≡ selections_of_units i =
    sym words ∙ ap (λ (lists : List (List (List Bool))). slice_index_or lists i []) same_of_units ∙ selections in
    let bits : List Bool = bits_of_word halves in
    select-from_units (word_of i) (positions i) 0 (AreLinear-transposed.row _ (ROWS_OF_ROUNDS-lt i below)) same halves
    fits
    ∙ append-nil (select (positions i) bits)
    ∙ sym (select-select 65 positions_in_word (halves_positions (i + 1)) bits (omega (arith, length-bits_of 64 halves)))

-- so if the halves are those of a key, it is the word of groups of the round key
pub record IsRoundKey (i word : ℕ) (key : List Bool) : Type 0 where
  pub of_groups : IsOfGroups word
  pub bits : bits_of_groups word ≡ round_key key (i + 1)

pub IsRoundKey-row : (i halves : ℕ) (words : List ℕ) (key : List Bool) → i < 16 → halves < 2 ^ 64
    → bits_of_word halves ≡ select permuted_choice_1 key ++ zeros 8 → words ≡ transposed (key_rows halves)
    → IsRoundKey i (slice_index_or words (slice_index_or ROWS_OF_ROUNDS i 0) 0) key
unfolding round_key
IsRoundKey-row i halves words key below fits holds made =
    let row : ℕ = slice_index_or ROWS_OF_ROUNDS i 0 in
    let kept : Holds (slice_index_or words row 0) (round_key key (i + 1)) =
    ap (λ (list : List ℕ). bits_of_word (slice_index_or list row 0)) made
    ∙ Holds-word_of i halves below fits
    ∙ ap (select positions_in_word) (round_key-halves (i + 1) halves key holds) in
    let word_fits : slice_index_or words row 0 < 2 ^ 64 =
    rw made (AreLinear-transposed.fits row halves (ROWS_OF_ROUNDS-lt i below)) in
    let width : length (round_key key (i + 1)) ≡ 48 = length-select permuted_choice_2 _ in
    record {
      of_groups = IsOfGroups-Holds _ (round_key key (i + 1)) word_fits width kept;
      bits = bits_of_groups-Holds _ (round_key key (i + 1)) width kept;
    }
