-- The halves C and D in a word, each rotated left by one place with masked shifts.
use Rattle.std.proofs.Common.{◌≡◌, ℕ, ◌*◌, ◌/◌, ◌%◌, ◌^◌, ◌<◌, List, [], ◌∷◌, ◌++◌, Bool, length, bit_and, bit_or, refl, ap, ◌∙◌}
use Rattle.std.specs.List.{range_with_len}
use Rattle.des.specs.Bits.{bits_of, bits_of_word, zeros, select}
use Rattle.des.specs.KeySchedule.{rotate}
use Rattle.des.proofs.LinearWords.{IsLinear-id, IsLinear-shl, IsLinear-shr, select-from_units}
use Rattle.des.proofs.LinearUnder.{IsLinearUnder-mask, IsLinearUnder-or}
use Rattle.des.proofs.RoundKeyPlaces.{from_places}

-- both halves of a word, rotated
abbrev rotated_halves : ℕ → ℕ
rotated_halves x = bit_or (bit_and (x * 2 % 2 ^ 64) 0xffffffeffffffe00) (bit_and (x / 2 ^ 27) 0x0000001000000100)

-- the positions that the rotated halves take
abbrev rotated_positions : List ℕ
rotated_positions = range_with_len 2 27 ++ 1 ∷ range_with_len 30 27 ++ 29 ∷ []

-- the rotated halves of a word are a selection from its bits
rotated_halves-select : (x : ℕ) → x < 2 ^ 64
    → bits_of_word (rotated_halves x) ≡ select rotated_positions (bits_of_word x) ++ zeros 8
unfolding bits_of select
rotated_halves-select =
    select-from_units rotated_halves rotated_positions 8
    (IsLinearUnder-or (IsLinearUnder-mask 0xffffffeffffffe00 (IsLinear-shl 1 IsLinear-id))
    (IsLinearUnder-mask 0x0000001000000100 (IsLinear-shr 27 IsLinear-id)) refl).linear
    refl

-- what the positions select from two halves is the halves, rotated
select-rotated_positions : (c d : List Bool) → length c ≡ 28 → length d ≡ 28
    → select rotated_positions ((c ++ d) ++ zeros 8) ≡ rotate c 1 ++ rotate d 1
unfolding select rotate
select-rotated_positions =
    from_places (λ c d. select rotated_positions ((c ++ d) ++ zeros 8) ≡ rotate c 1 ++ rotate d 1) (λ value. refl)

-- the word of two halves becomes the word of the rotated halves
pub bits_of_word-rotated_halves : (x : ℕ) (c d : List Bool) → x < 2 ^ 64 → length c ≡ 28 → length d ≡ 28
    → bits_of_word x ≡ (c ++ d) ++ zeros 8 → bits_of_word (rotated_halves x) ≡ (rotate c 1 ++ rotate d 1) ++ zeros 8
bits_of_word-rotated_halves x c d below c_size d_size same =
    rotated_halves-select x below
    ∙ ap (λ bits. select rotated_positions bits ++ zeros 8) same
    ∙ ap (λ bits. bits ++ zeros 8) (select-rotated_positions c d c_size d_size)
