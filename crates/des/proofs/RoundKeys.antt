-- The key schedule as words compute it: the halves C and D, the shifts, and a list of sixteen round keys.
use Rattle.std.proofs.Common.{◌≡◌, ℕ, ◌+◌, ◌-◌, ◌*◌, ◌/◌, ◌%◌, ◌^◌, ◌<◌, ◌≤◌, List, [], ◌++◌, Bool, map, length, take, get_or, slice_index, sym, ◌∙◌, arith, bit_and, bit_or}
use Rattle.std.specs.Int.{w64, from_be_bytes}
use Rattle.std.specs.List.{range_with_len}
use Rattle.std.proofs.lemmas.Nat.{or_shifted, shl_whole, shl_below, shl-shr}
use Rattle.std.proofs.lemmas.List.{append-nil, take-append-le, take_at, length-map, length-drop, length-take-le, get_or-map, ext_get_or}
use Rattle.std.proofs.lemmas.List.Sums.{sum_by_more, sum_by_more_le}
use Rattle.std.proofs.lemmas.List.FromFn.{get_or-map-range_with_len}
use Rattle.des.specs.Bits.{bits_of, bits_of_word, bits_of_bytes, select, zeros}
use Rattle.des.specs.Tables.{permuted_choice_1, permuted_choice_2, left_shifts}
use Rattle.des.specs.KeySchedule.{c_half, d_half, rotate, shifts_through, round_key, key_schedule}
use Rattle.des.specs.RoundKeyWords.{HoldRoundKeys}
use Rattle.des.specs.Blocks.{IsKey}
use Rattle.des.specs.Laws.BitLists.{bits_of-cat, bits_of_bytes-from_be}
use Rattle.des.specs.Laws.Selections.{length-select}
use Rattle.des.proofs.BitParts.{bits_of-and_mask, take-bits_of, drop-bits_of}
use Rattle.des.proofs.Rotation.{rotate-rotate}
use Rattle.des.proofs.ByteArrays.{IsKey-array}

-- C has 28 bits
pub length-c_half : (key : List Bool) → length (c_half key) ≡ 28
unfolding c_half
length-c_half key =
    length-take-le 28 (select permuted_choice_1 key) (omega (arith, length-select permuted_choice_1 key))

-- D has 28 bits
pub length-d_half : (key : List Bool) → length (d_half key) ≡ 28
unfolding d_half
length-d_half key = omega (arith, length-drop 28 (select permuted_choice_1 key), length-select permuted_choice_1 key)

-- before the first shift a half is as it was
pub rotate-shifts_through_zero : (half : List Bool) → rotate half (shifts_through 0) ≡ half
unfolding rotate shifts_through
rotate-shifts_through_zero half = append-nil half

-- a half that the shifts through i have rotated, rotated by the next shift
pub rotate-more : (i : ℕ) (half before after : List Bool) → i < 16 → length half ≡ 28
    → before ≡ rotate half (shifts_through i)
    → after ≡ rotate before (get_or left_shifts i 0) → after ≡ rotate half (shifts_through (i + 1))
unfolding shifts_through
rotate-more i half before after within size so_far next =
    let once_round : shifts_through i + get_or left_shifts i 0 ≤ 28 = sum_by_more_le (λ x. x) left_shifts i 0 within in
    rw (next, so_far, sum_by_more (λ x. x) left_shifts i 0 within)
    (rotate-rotate (shifts_through i) (get_or left_shifts i 0) half (omega arith))

-- the first 28 bits of a word that holds permuted choice 1 are C
pub c_half-in_word : (word : ℕ) (key : List Bool) → bits_of_word word ≡ select permuted_choice_1 key ++ zeros 8
    → bits_of 28 (word / 2 ^ 36) ≡ c_half key
unfolding c_half
c_half-in_word word key holds =
    rw (← take-bits_of 28 36 word, holds)
    (take-append-le 28 (select permuted_choice_1 key) (zeros 8) (omega (arith, length-select permuted_choice_1 key)))

-- the next 28 bits are D
pub d_half-in_word : (word : ℕ) (key : List Bool) → bits_of_word word ≡ select permuted_choice_1 key ++ zeros 8
    → bits_of 28 (bit_and (word / 2 ^ 8) (2 ^ 28 - 1)) ≡ d_half key
unfolding d_half
d_half-in_word word key holds =
    let chosen = take_at (select permuted_choice_1 key) (zeros 8) 56 (length-select permuted_choice_1 key) in
    rw (
      bits_of-and_mask 28 (word / 2 ^ 8),
      ← drop-bits_of 28 28 (word / 2 ^ 8),
      ← take-bits_of 56 8 word,
      holds,
      chosen,
    )

-- the word of two halves, in its first 56 bits
halves_word : (c d : ℕ) → c < 2 ^ 28 → d < 2 ^ 28
    → bit_or (c * 2 ^ 36 % 2 ^ 64) (d * 2 ^ 8 % 2 ^ 64) ≡ (c * 2 ^ 28 + d) * 2 ^ 8
halves_word c d c_within d_within =
    rw (shl_whole c 28 36 64 c_within (omega arith), shl_whole d 28 8 64 d_within (omega arith))
    (or_shifted c 36 (d * 2 ^ 8) (shl_below d 28 8 d_within) ∙ omega arith)

-- the word of two halves begins with their bits
take-halves_word : (c d : ℕ) → c < 2 ^ 28 → d < 2 ^ 28
    → take 56 (bits_of_word (bit_or (c * 2 ^ 36 % 2 ^ 64) (d * 2 ^ 8 % 2 ^ 64))) ≡ bits_of 28 c ++ bits_of 28 d
take-halves_word c d c_within d_within =
    rw (halves_word c d c_within d_within, take-bits_of 56 8 ((c * 2 ^ 28 + d) * 2 ^ 8), shl-shr (c * 2 ^ 28 + d) 8)
    (bits_of-cat 28 28 c d d_within)

-- permuted choice 2 of the word of the rotated halves is a round key
pub round_key-in_word : (i c d : ℕ) (key : List Bool) → c < 2 ^ 28 → d < 2 ^ 28
    → bits_of 28 c ≡ rotate (c_half key) (shifts_through i) → bits_of 28 d ≡ rotate (d_half key) (shifts_through i)
    → select permuted_choice_2 (take 56 (bits_of_word (bit_or (c * 2 ^ 36 % 2 ^ 64) (d * 2 ^ 8 % 2 ^ 64))))
    ≡ round_key key i
unfolding round_key
round_key-in_word i c d key c_within d_within c_rotated d_rotated =
    rw (take-halves_word c d c_within d_within, c_rotated, d_rotated)

-- sixteen words, each of which holds its round key, hold the round keys
pub HoldRoundKeys-by_index : (words : List ℕ) (key : List Bool) → length words ≡ 16
    → ((k : ℕ) → k < 16 → bits_of_word (get_or words k 0) ≡ round_key key (k + 1) ++ zeros 16) → HoldRoundKeys words key
unfolding key_schedule
HoldRoundKeys-by_index words key size each =
    ext_get_or [] (map bits_of_word words) (map (λ (i : ℕ). round_key key i ++ zeros 16) (range_with_len 1 16))
    (length-map words bits_of_word ∙ size)
    (λ k below.
    let within : k < 16 = omega (arith, length-map words bits_of_word) in
    get_or-map bits_of_word words k 0 [] (omega arith)
    ∙ each k within
    ∙ sym (get_or-map-range_with_len (λ (i : ℕ). round_key key i ++ zeros 16) 1 16 k (k + 1) [] within (omega arith)))

-- words that hold the round keys of a word hold those of its eight bytes, a key
pub HoldRoundKeys-bytes : (words bytes : List ℕ) (word : ℕ) → length bytes ≡ 8 → ((i : ℕ) → slice_index bytes i < 256)
    → word ≡ from_be_bytes w64 bytes → HoldRoundKeys words (bits_of_word word)
    → IsKey 8 bytes × HoldRoundKeys words (bits_of_bytes bytes)
HoldRoundKeys-bytes words bytes word eight small same kept = (
  IsKey-array 8 bytes eight small,
  rw (bits_of_bytes-from_be bytes eight small, ← same) kept,
)
