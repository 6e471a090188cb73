-- The round keys as selections from the word of the halves C and D, by lists of positions.
use Rattle.std.proofs.Common.{◌≡◌, ℕ, ◌+◌, ◌≤◌, List, ◌++◌, Bool, length, take, drop, ap, sym, ◌∙◌, arith}
use Rattle.std.specs.Prelude.{sum}
use Rattle.std.specs.List.{range_with_len}
use Rattle.std.proofs.lemmas.List.{map-append, take-append-le, drop-append-le, take_at}
use Rattle.des.specs.Bits.{bit, bits_of_word, select, zeros}
use Rattle.des.specs.Tables.{permuted_choice_1, permuted_choice_2, left_shifts}
use Rattle.des.specs.KeySchedule.{c_half, d_half, rotate, shifts_through, round_key}
use Rattle.des.specs.Laws.BitLists.{length-bits_of}
use Rattle.des.specs.Laws.Selections.{composed, length-select, select-select, select-range_with_len}
use Rattle.des.proofs.KeySelections.{rotated, rotate-select}
use Rattle.des.proofs.RoundKeys.{length-d_half}

-- the positions of C and D in a word of 64 bits, rotated for round key i; the shifts are written out, so that the
-- positions compute
abbrev rotated_halves : ℕ → List ℕ
rotated_halves i =
    let shifts = sum (take i left_shifts) in
    rotated (range_with_len 1 28) shifts ++ rotated (range_with_len 29 28) shifts

-- the positions that round key i takes: 65 is past the end of a word
abbrev pub halves_positions : ℕ → List ℕ
halves_positions i = composed 65 permuted_choice_2 (rotated_halves i)

-- some bits in a row of a list, rotated
rotate-range : (k n places : ℕ) (bits : List Bool) → k + n ≤ length bits
    → rotate (take n (drop k bits)) places ≡ select (rotated (range_with_len (k + 1) n) places) bits
rotate-range k n places bits inside =
    rw (← select-range_with_len k n bits inside) (rotate-select (range_with_len (k + 1) n) bits places)

-- C and D in the bits of their word
c_half-in_bits : (key : List Bool) → take 28 (drop 0 (select permuted_choice_1 key ++ zeros 8)) ≡ c_half key
unfolding c_half
c_half-in_bits key =
    take-append-le 28 (select permuted_choice_1 key) (zeros 8) (omega (arith, length-select permuted_choice_1 key))

d_half-in_bits : (key : List Bool) → take 28 (drop 28 (select permuted_choice_1 key ++ zeros 8)) ≡ d_half key
unfolding d_half
d_half-in_bits key =
    let chosen : List Bool = select permuted_choice_1 key in
    ap (take 28) (drop-append-le 28 chosen (zeros 8) (omega (arith, length-select permuted_choice_1 key)))
    ∙ take_at (drop 28 chosen) (zeros 8) 28 (length-d_half key)

-- a round key is the selection from them by its positions
pub round_key-halves : (i halves : ℕ) (key : List Bool) → bits_of_word halves ≡ select permuted_choice_1 key ++ zeros 8
    → select (halves_positions i) (bits_of_word halves) ≡ round_key key i
unfolding round_key select shifts_through
round_key-halves i halves key holds =
    let bits : List Bool = bits_of_word halves in
    let width : length bits ≡ 64 = length-bits_of 64 halves in
    let shifts : ℕ = sum (take i left_shifts) in
    let c : c_half key ≡ take 28 (drop 0 bits) = rw holds (sym (c_half-in_bits key)) in
    let d : d_half key ≡ take 28 (drop 28 bits) = rw holds (sym (d_half-in_bits key)) in
    rw (
      c,
      d,
      rotate-range 0 28 shifts bits (omega arith),
      rotate-range 28 28 shifts bits (omega arith),
      ← map-append (bit bits) (rotated (range_with_len 1 28) shifts) (rotated (range_with_len 29 28) shifts),
    )
    (sym (select-select 65 permuted_choice_2 (rotated_halves i) bits (omega arith)))
