-- The substitution box by box, with the entries as the list of the boxes has them.
use Rattle.std.proofs.Common.{◌≡◌, ℕ, ◌+◌, ◌-◌, ◌*◌, ◌/◌, ◌%◌, ◌^◌, ◌<◌, nat_lt, ◌==◌, List, [], ◌++◌, Bool, true, take, drop, slice_index, slice_index_or, bit_and, bit_or, refl, sym, ap, ◌∙◌, arith}
use Rattle.std.specs.Int.Bits.{mask_lt}
use Rattle.std.proofs.lemmas.Bool.{ltb-true, eqb-true, agree_below, agree_below_at}
use Rattle.std.proofs.lemmas.Nat.{or_shifted, shl_whole, pow-add}
use Rattle.std.proofs.lemmas.List.{append_assoc, drop-drop, drop-take, take-take, drop_more}
use Rattle.des.specs.Bits.{bits_of, bits_of_word, number_of}
use Rattle.des.specs.Tables.{selection_functions}
use Rattle.des.specs.CipherFunction.{box_entry, substitute_by}
use Rattle.des.specs.BoxesInOrder.{boxes_in_order}
use Rattle.des.specs.Laws.BitLists.{bits_of-cat}
use Rattle.des.proofs.BitParts.{bits_of-and_mask, take-bits_of, drop-bits_of}

-- the group of six bits of a word that box i replaces
take-drop-bits_of_word : (i x : ℕ) → i < 8
    → take 6 (drop (6 * i) (take 48 (bits_of_word x))) ≡ bits_of 6 (x / 2 ^ (58 - 6 * i))
take-drop-bits_of_word i x below =
    let width : 64 ≡ 6 * i + (6 + (58 - 6 * i)) = omega arith in
    rw (
      ← drop-take (6 * i) 6 (take 48 (bits_of_word x)),
      take-take (6 * i + 6) 48 (bits_of_word x) (omega arith),
      drop-take (6 * i) 6 (bits_of_word x),
      width,
      drop-bits_of (6 * i) (6 + (58 - 6 * i)) x,
    )
    (take-bits_of 6 (58 - 6 * i) x)

-- the substitution by the boxes from box i on, with the answer of box i apart
substitute_by-drop : (i x : ℕ) → i < 8
    → substitute_by (drop i selection_functions) (drop (6 * i) (take 48 (bits_of_word x)))
    ≡ bits_of 4 (box_entry (slice_index_or selection_functions i []) (bits_of 6 (x / 2 ^ (58 - 6 * i))))
    ++ substitute_by (drop (i + 1) selection_functions) (drop (6 * (i + 1)) (take 48 (bits_of_word x)))
unfolding substitute_by
substitute_by-drop i x below =
    let bits : List Bool = take 48 (bits_of_word x) in
    let next : 6 * i + 6 ≡ 6 * (i + 1) = omega arith in
    rw (drop_more selection_functions i [] below, take-drop-bits_of_word i x below, drop-drop 6 (6 * i) bits, next)

-- the lowest six bits of a number, as a number
abbrev group_of : ℕ → ℕ
group_of x = bit_and x 63

-- the entry of box i for a group, as a number, as the list of the boxes has it
abbrev listed_entry : ℕ → ℕ → ℕ
listed_entry i group = slice_index (slice_index_or boxes_in_order i []) group

-- it is the entry of the box for the group's six bits
listed_entry-box_entry : (i x : ℕ) → i < 8
    → box_entry (slice_index_or selection_functions i []) (bits_of 6 x) ≡ listed_entry i (group_of x)
unfolding box_entry bits_of number_of
listed_entry-box_entry i x below =
    let agrees : ℕ → ℕ → Bool =
    λ j group. box_entry (slice_index_or selection_functions j []) (bits_of 6 group) == listed_entry j group in
    let box_agrees : ℕ → Bool = λ j. agree_below (agrees j) (λ group. true) 64 in
    let each : box_agrees i ≡ true = agree_below_at box_agrees (λ j. true) 8 i refl below in
    ap (box_entry (slice_index_or selection_functions i [])) (sym (bits_of-and_mask 6 x))
    ∙ eqb-true _ _ (agree_below_at (agrees i) (λ group. true) 64 (group_of x) each (mask_lt x 6))

-- the entry of box i for a word
abbrev pub entry_for : ℕ → ℕ → ℕ
entry_for i x = listed_entry i (group_of (x / 2 ^ (58 - 6 * i)))

-- the entry of box i for a word is below 16
entry_for-lt : (i x : ℕ) → i < 8 → entry_for i x < 16
unfolding box_entry bits_of number_of
entry_for-lt i x below =
    let small : ℕ → ℕ → Bool = λ j group. nat_lt (listed_entry j group) 16 in
    let small_box : ℕ → Bool = λ j. agree_below (small j) (λ group. true) 64 in
    let each : small_box i ≡ true = agree_below_at small_box (λ j. true) 8 i refl below in
    let shifted : ℕ = x / 2 ^ (58 - 6 * i) in
    ltb-true (entry_for i x) 16
    (agree_below_at (small i) (λ group. true) 64 (group_of shifted) each (mask_lt shifted 6))

-- a number with an entry of four bits after it, in 64 bits
abbrev with_entry : ℕ → ℕ → ℕ
with_entry output entry = bit_or (output * 16 % 2 ^ 64) entry

-- the entry takes four places of its own
with_entry-sum : (i output entry : ℕ) → i < 8 → output < 2 ^ (4 * i) → entry < 16
    → with_entry output entry ≡ output * 2 ^ 4 + entry
with_entry-sum i output entry within below small =
    rw (shl_whole output (4 * i) 4 64 below (omega arith)) (or_shifted output 4 entry small)

-- the next entry makes the number four bits longer
pub with_entry-lt : (i x output : ℕ) → i < 8 → output < 2 ^ (4 * i)
    → with_entry output (entry_for i x) < 2 ^ (4 * (i + 1))
with_entry-lt i x output within below =
    let small : entry_for i x < 2 ^ 4 = entry_for-lt i x within in
    let count : 4 * (i + 1) ≡ 4 * i + 4 = omega arith in
    rw (with_entry-sum i output (entry_for i x) within below small, count, pow-add 2 (4 * i) 4) (omega arith)

-- the next entry is what the next box adds to the output
pub bits_of-with_entry : (i x output : ℕ) (whole : List Bool) → i < 8 → output < 2 ^ (4 * i)
    → bits_of (4 * i) output ++ substitute_by (drop i selection_functions) (drop (6 * i) (take 48 (bits_of_word x)))
    ≡ whole
    → bits_of (4 * (i + 1)) (with_entry output (entry_for i x))
    ++ substitute_by (drop (i + 1) selection_functions) (drop (6 * (i + 1)) (take 48 (bits_of_word x))) ≡ whole
bits_of-with_entry i x output whole within below so_far =
    let small : entry_for i x < 2 ^ 4 = entry_for-lt i x within in
    let count : 4 * (i + 1) ≡ 4 * i + 4 = omega arith in
    rw (
      with_entry-sum i output (entry_for i x) within below small,
      count,
      bits_of-cat (4 * i) 4 output (entry_for i x) small,
      append_assoc,
      ← listed_entry-box_entry i (x / 2 ^ (58 - 6 * i)) within,
      ← substitute_by-drop i x within,
    )
    so_far
