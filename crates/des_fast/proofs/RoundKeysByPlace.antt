-- The round keys that the code holds, by their places.
use Rattle.std.proofs.Common.{◌≡◌, ℕ, ◌+◌, ◌-◌, ◌%◌, ◌<◌, List, [], Bool, true, false, length, map, reverse, slice_index_or, bit_xor, ap, ap₂, refl, sym, ◌∙◌, arith}
use Rattle.std.proofs.lemmas.List.{length-map, ext_get_or, get_or-map, get_or-reverse}
use Rattle.des_fast.specs.declared.halves.RoundKey.{RoundKey}
use Rattle.des_fast.specs.Groups.{bits_of_groups}
use Rattle.des_fast.specs.HalfBlocks.{round_keys_of}
use Rattle.des_fast.specs.RoundKeyChanges.{AreChanges, key_word}
use Rattle.des_fast.specs.SideBySide.{in_direction}

-- there are as many round keys
pub length-round_keys_of : (round_keys : List RoundKey) → length (round_keys_of round_keys) ≡ length round_keys
unfolding round_keys_of
length-round_keys_of round_keys = length-map round_keys (λ round_key. bits_of_groups round_key.groups)

-- the bits of the round key at a place
pub round_keys_of-at : (round_keys : List RoundKey) (n : ℕ) (d : RoundKey) → n < length round_keys
    → bits_of_groups (slice_index_or round_keys n d).groups ≡ slice_index_or (round_keys_of round_keys) n []
unfolding round_keys_of
round_keys_of-at round_keys n d below =
    sym (get_or-map (λ round_key. bits_of_groups round_key.groups) round_keys n d [] below)

-- and of that at a place counted from the end
pub round_keys_of-at_reverse : (round_keys : List RoundKey) (m n : ℕ) (d : RoundKey) → m + n + 1 ≡ length round_keys
    → bits_of_groups (slice_index_or round_keys n d).groups ≡ slice_index_or (reverse (round_keys_of round_keys)) m []
round_keys_of-at_reverse round_keys m n d count =
    let keys : List (List Bool) = round_keys_of round_keys in
    let size : length keys ≡ length round_keys = length-round_keys_of round_keys in
    let place : length keys - 1 - m ≡ n = omega arith in
    rw (get_or-reverse keys m [] (omega arith), place) (round_keys_of-at round_keys n d (omega arith))

-- the word of the round key of a round is at its place, or at that counted from the end
pub key_word-at : (round_keys : List RoundKey) (n : ℕ) (d : RoundKey) → n < length round_keys
    → (slice_index_or round_keys n d).groups ≡ key_word false round_keys n
key_word-at round_keys n d below = sym (get_or-map (λ round_key. round_key.groups) round_keys n d 0 below)

pub key_word-at_reverse : (round_keys : List RoundKey) (m n : ℕ) (d : RoundKey) → m + n + 1 ≡ length round_keys
    → (slice_index_or round_keys n d).groups ≡ key_word true round_keys m
key_word-at_reverse round_keys m n d count =
    let words : List ℕ = map (λ round_key. round_key.groups) round_keys in
    let size : length words ≡ length round_keys = length-map round_keys (λ round_key. round_key.groups) in
    let place : length words - 1 - m ≡ n = omega arith in
    rw (get_or-reverse words m 0 (omega arith), place) (key_word-at round_keys n d (omega arith))

-- so it is that of the other direction, counted from the end
pub key_word-other : (round_keys : List RoundKey) (n : ℕ) → length round_keys ≡ 16 → n < 16
    → key_word true round_keys n ≡ key_word false round_keys (15 - n)
key_word-other round_keys n size below =
    let none : RoundKey = record { groups = 0; of_groups = refl } in
    sym (key_word-at_reverse round_keys n (15 - n) none (omega (arith, size)))
    ∙ key_word-at round_keys (15 - n) none (omega (arith, size))

-- changes at the places of their round keys, in the order of deciphering
pub AreChanges-backward : (round_keys changes : List RoundKey) → length round_keys ≡ 16 → length changes ≡ 16
    → ((n : ℕ) → n < 16 → key_word false changes n
    ≡ bit_xor (key_word false round_keys n) (key_word false round_keys ((n + 14) % 16)))
    → AreChanges true round_keys changes
AreChanges-backward round_keys changes size count each round below =
    let place : (15 - round + 14) % 16 ≡ 15 - (round + 2) % 16 = omega arith in
    key_word-other changes round count below
    ∙ each (15 - round) (omega arith)
    ∙ ap₂ bit_xor (sym (key_word-other round_keys round size below))
    (ap (key_word false round_keys) place ∙ sym (key_word-other round_keys ((round + 2) % 16) size (omega arith)))

-- and has its bits
pub key_word-bits : (deciphers : Bool) (round_keys : List RoundKey) (n : ℕ) → n < length round_keys
    → bits_of_groups (key_word deciphers round_keys n) ≡ slice_index_or (in_direction deciphers (round_keys_of round_keys)) n []
key_word-bits false round_keys n below =
    let none : RoundKey = record { groups = 0; of_groups = refl } in
    ap bits_of_groups (sym (key_word-at round_keys n none below)) ∙ round_keys_of-at round_keys n none below
key_word-bits true round_keys n below =
    let none : RoundKey = record { groups = 0; of_groups = refl } in
    let place : ℕ = length round_keys - 1 - n in
    let count : n + place + 1 ≡ length round_keys = omega arith in
    ap bits_of_groups (sym (key_word-at_reverse round_keys n place none count))
    ∙ round_keys_of-at_reverse round_keys n place none count

-- round keys with these bits, place by place, are those of the list
pub round_keys_of-by_index : (round_keys : List RoundKey) (keys : List (List Bool)) → length round_keys ≡ length keys
    → ((i : ℕ) (d : RoundKey) → i < length keys
    → bits_of_groups (slice_index_or round_keys i d).groups ≡ slice_index_or keys i [])
    → round_keys_of round_keys ≡ keys
round_keys_of-by_index round_keys keys size each =
    let none : RoundKey = record { groups = 0; of_groups = refl } in
    ext_get_or [] (round_keys_of round_keys) keys
    (length-round_keys_of round_keys ∙ size)
    (λ i below.
    let within : i < length round_keys = omega (arith, length-round_keys_of round_keys) in
    sym (round_keys_of-at round_keys i none within) ∙ each i none (omega arith))
