-- Round keys that are kept as plain words.
use Rattle.std.proofs.Common.{◌≡◌, ℕ, ◌<◌, ◌^◌, List, [], length, slice_index_or, bit_and, map, sym, ◌∙◌, arith}
use Rattle.std.proofs.lemmas.List.{length-map, get_or-map}
use Rattle.des.specs.Bits.{bits_of_word}
use Rattle.des.specs.Laws.Selections.{length-select}
use Rattle.des_fast.specs.declared.halves.RoundKey.{RoundKey}
use Rattle.des_fast.specs.Groups.{group_positions, bits_of_groups}
use Rattle.des_fast.specs.HalfBlocks.{round_keys_of}
use Rattle.des_fast.specs.KeptRoundKeys.{round_keys_in}
use Rattle.des_fast.proofs.GroupWords.{bits_of_word-mask, bits_of_groups-Holds}
use Rattle.des_fast.proofs.RoundKeysByPlace.{round_keys_of-by_index}

-- a mask keeps the groups of a word
pub bits_of_groups-mask : (word : ℕ) → word < 2 ^ 64
    → bits_of_groups (bit_and word 0x3f3f3f3f3f3f3f3f) ≡ bits_of_groups word
bits_of_groups-mask word below =
    bits_of_groups-Holds (bit_and word 0x3f3f3f3f3f3f3f3f) (bits_of_groups word)
    (length-select group_positions (bits_of_word word))
    (bits_of_word-mask word below)

-- words and round keys with the same groups, place by place, are the same round keys
pub round_keys_in-by_place : (words : List ℕ) (round_keys : List RoundKey) → length words ≡ length round_keys
    → ((i d : ℕ) (e : RoundKey) → i < length words
    → bits_of_groups (slice_index_or words i d) ≡ bits_of_groups (slice_index_or round_keys i e).groups)
    → round_keys_in words ≡ round_keys_of round_keys
unfolding round_keys_in
round_keys_in-by_place words round_keys size each =
    sym (round_keys_of-by_index round_keys (map bits_of_groups words) (sym size ∙ sym (length-map words bits_of_groups))
    (λ i d below.
    let within : i < length words = omega (arith, length-map words bits_of_groups) in
    sym (each i 0 d within) ∙ sym (get_or-map bits_of_groups words i 0 [] within)))
