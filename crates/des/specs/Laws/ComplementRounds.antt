-- Complements of key and block, taken through the rounds: the expansion of a complemented half
-- block cancels with the complemented round key, so the cipher function does not change, and each
-- half block is complemented.
use Rattle.std.proofs.Common.{◌≡◌, ℕ, ◌+◌, not, List, [], ◌∷◌, ◌++◌, Bool, length, map, take, drop, refl, ap, ◌∙◌, sym, arith, length-append, length-take, length-drop}
use Rattle.std.specs.List.{range_with_len}
use Rattle.std.proofs.lemmas.List.{map-append, take-map, drop-map}
use Rattle.std.proofs.lemmas.Simd.{map-map}
use Rattle.std.proofs.Math.Path.{fun_ext}
use Rattle.des.specs.Bits.{bits_of_bytes, select}
use Rattle.des.specs.Tables.{initial_permutation, final_permutation, expansion, permuted_choice_1, permuted_choice_2}
use Rattle.des.specs.CipherFunction.{cipher_function}
use Rattle.des.specs.KeySchedule.{c_half, d_half, rotate, shifts_through, round_key, key_schedule}
use Rattle.des.specs.Rounds.{after_rounds, swapped, through_rounds, block_by_keys}
use Rattle.des.specs.Blocks.{IsBlock}
use Rattle.des.specs.Complement.{complement_bits, complement}
use Rattle.des.specs.Laws.Selections.{length-select}
use Rattle.des.specs.Laws.BlockBits.{length-bits_of_block}
use Rattle.des.specs.Laws.ComplementBits.{select-complement, xor_bits-complement, xor_bits-complements, bits_of_bytes-complement, block_of_bits-complement}
use Rattle.des.specs.Laws.RoundsUndone.{AreHalves, AreHalves-permuted, AreHalves-after_rounds, next_half, length-next_half, length-swapped, length-through_rounds}

-- ---- the key schedule

-- a rotated complement is the complement rotated
rotate-complement : (half : List Bool) (n : ℕ)
    → rotate (complement_bits half) n ≡ complement_bits (rotate half n)
unfolding rotate
rotate-complement half n =
    rw (drop-map not n half, take-map not n half) (sym (map-append not (drop n half) (take n half)))

-- rotation keeps the length
pub length-rotate : (half : List Bool) (n : ℕ) → length (rotate half n) ≡ length half
unfolding rotate
length-rotate half n = simp (length-append, length-drop, length-take) (omega arith)

-- C and D have 56 bits
length-halves : (key : List Bool) → length (c_half key) + length (d_half key) ≡ 56
unfolding c_half d_half
length-halves key =
    simp (length-take, length-drop, length-select permuted_choice_1 key) (omega arith)

-- the halves of a complemented key are the complements of its halves
halves-complement : (key : List Bool) → length key ≡ 64
    → (c_half (complement_bits key) ≡ complement_bits (c_half key))
    × (d_half (complement_bits key) ≡ complement_bits (d_half key))
unfolding c_half d_half
halves-complement key width =
    let chosen = select-complement 64 permuted_choice_1 key width refl in (
      ap (take 28) chosen ∙ take-map not 28 (select permuted_choice_1 key),
      ap (drop 28) chosen ∙ drop-map not 28 (select permuted_choice_1 key),
    )

-- a round key of a complemented key is the complement of the round key
round_key-complement : (key : List Bool) (i : ℕ) → length key ≡ 64
    → round_key (complement_bits key) i ≡ complement_bits (round_key key i)
unfolding round_key
round_key-complement key i width =
    let c : List Bool = rotate (c_half key) (shifts_through i) in
    let d : List Bool = rotate (d_half key) (shifts_through i) in
    let size : length (c ++ d) ≡ 56 = simp (length-append, length-rotate) (length-halves key) in
    let halves = halves-complement key width in
    rw (halves.0, halves.1)
    (simp rotate-complement (rw (← map-append not c d)
    (select-complement 56 permuted_choice_2 (c ++ d) size refl)))

-- the round keys of a complemented key are the complements of its round keys
pub key_schedule-complement : (key : List Bool) → length key ≡ 64
    → key_schedule (complement_bits key) ≡ map complement_bits (key_schedule key)
unfolding key_schedule
key_schedule-complement key width =
    ap (λ (each : ℕ → List Bool). map each (range_with_len 1 16))
    (fun_ext (λ i. round_key-complement key i width))
    ∙ sym (map-map complement_bits (round_key key) (range_with_len 1 16))

-- ---- the rounds

-- the cipher function does not change
cipher_function-complement : (half round_key : List Bool) → length half ≡ 32
    → cipher_function (complement_bits half) (complement_bits round_key)
    ≡ cipher_function half round_key
unfolding cipher_function
cipher_function-complement half round_key width =
    rw (select-complement 32 expansion half width refl, xor_bits-complements) refl

-- so the rounds complement each half
after_rounds-complement : (keys : List (List Bool)) (left right : List Bool)
    → AreHalves (left, right) → let last = after_rounds keys left right in
    after_rounds (map complement_bits keys) (complement_bits left) (complement_bits right)
    ≡ (complement_bits last.0, complement_bits last.1)
unfolding after_rounds
after_rounds-complement [] left right halves = refl
after_rounds-complement (key ∷ keys) left right halves =
    let next : next_half (complement_bits left) (complement_bits right) (complement_bits key)
    ≡ complement_bits (next_half left right key) =
    rw (cipher_function-complement right key halves.1)
    (xor_bits-complement left (cipher_function right key)) in
    ap (after_rounds (map complement_bits keys) (complement_bits right)) next
    ∙ after_rounds-complement keys right (next_half left right key)
    (halves.1, length-next_half left right key halves.0)

-- and what they make of 64 bits
through_rounds-complement : (keys : List (List Bool)) (block : List Bool) → length block ≡ 64
    → through_rounds (map complement_bits keys) (complement_bits block)
    ≡ complement_bits (through_rounds keys block)
unfolding through_rounds
through_rounds-complement keys block width =
    let permuted : List Bool = select initial_permutation block in
    let left : List Bool = take 32 permuted in
    let right : List Bool = drop 32 permuted in
    let last : List Bool × List Bool = after_rounds keys left right in
    let halves : AreHalves (left, right) = AreHalves-permuted block in
    rw (
      select-complement 64 initial_permutation block width refl,
      take-map not 32 permuted,
      drop-map not 32 permuted,
      after_rounds-complement keys left right halves,
      ← map-append not last.1 last.0,
    )
    (select-complement 64 final_permutation (swapped last)
    (length-swapped last (AreHalves-after_rounds keys left right halves)) refl)

-- the rounds of complemented round keys make of a complemented block the complement of what the
-- rounds make of the block
pub block_by_keys-complement : (keys : List (List Bool)) (block : List ℕ) → IsBlock block
    → block_by_keys (map complement_bits keys) (complement block) ≡ complement (block_by_keys keys block)
block_by_keys-complement keys block is_block =
    let bits : List Bool = bits_of_bytes block in
    let width : length bits ≡ 64 = length-bits_of_block block is_block in
    rw (bits_of_bytes-complement block, through_rounds-complement keys bits width)
    (block_of_bits-complement (through_rounds keys bits) (length-through_rounds keys bits))
