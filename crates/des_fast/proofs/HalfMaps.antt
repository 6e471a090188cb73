-- The maps of words to words of groups and back select the bits that they should.
use Rattle.std.proofs.Common.{◌≡◌, ℕ, ◌+◌, ◌^◌, ◌<◌, ◌≤◌, List, ◌++◌, Bool, length, take, drop, replicate, refl, ap, sym, ◌∙◌, arith, take_all, lit≤}
use Rattle.std.specs.List.{range_with_len}
use Rattle.std.proofs.lemmas.List.{length-drop, length-take-le}
use Rattle.des.specs.Bits.{bits_of, bits_of_word, select}
use Rattle.des.specs.Tables.{expansion}
use Rattle.des.specs.Laws.BitLists.{length-bits_of}
use Rattle.des.specs.Laws.Selections.{composed, select-select, select-range_with_len}
use Rattle.des.proofs.BitParts.{drop-bits_of}
use Rattle.des_fast.specs.Groups.{positions_in_word, half_positions, half_of}
use Rattle.des_fast.proofs.GroupWords.{IsOfGroups-lt}
use Rattle.des_fast.proofs.HalfExpansions.{IsExpansionOf, IsExpansionOf-Holds}
use Rattle.des_fast.proofs.WordMaps.{WordMap, left_under, right_under, under, left, right, joined, Selects, selected}

-- ---- the halves of a word

-- the groups 1, 3, 5 and 7 of the expansion of each half, and the groups 2, 4, 6 and 8
abbrev odd_groups : WordMap
odd_groups = joined (right_under 3 0x1f3f3f3f1f3f3f3f) (left_under 29 0x2000000020000000) refl

abbrev even_groups : WordMap
even_groups = joined (left_under 1 0x3f3f3f3e3f3f3f3e) (right_under 31 0x0000000100000001) refl

-- the expansion of the left half, and that of the right
abbrev pub left_groups : WordMap
left_groups = joined (under 0x3f3f3f3f00000000 odd_groups) (right 32 even_groups) refl

abbrev pub right_groups : WordMap
right_groups = joined (left 32 odd_groups) (under 0x000000003f3f3f3f even_groups) refl

-- the positions of the expansion of the 32 bits after the first k, in a word of groups
abbrev expanded_from : ℕ → List ℕ
expanded_from k = composed 65 positions_in_word (composed 65 expansion (range_with_len (k + 1) 32))

-- a map that selects them makes their expansion
IsExpansionOf-selected : (form : WordMap) (k : ℕ) → form.mask ≡ 0x3f3f3f3f3f3f3f3f → k + 32 ≤ 64
    → Selects form (expanded_from k) → (x : ℕ) → x < 2 ^ 64
    → IsExpansionOf (form.of x) (take 32 (drop k (bits_of_word x)))
IsExpansionOf-selected form k of_groups inside same x below =
    let bits : List Bool = bits_of_word x in
    let size : length bits ≡ 64 = length-bits_of 64 x in
    let within : k + 32 ≤ length bits = omega arith in
    let width : length bits < 65 = omega arith in
    IsExpansionOf-Holds (form.of x) (take 32 (drop k bits)) (IsOfGroups-lt (form.of x) (rw of_groups at (form.is.under x)))
    (length-take-le 32 (drop k bits) (omega (arith, length-drop k bits)))
    (rw (
      ← select-range_with_len k 32 bits within,
      select-select 65 expansion (range_with_len (k + 1) 32) bits width,
      select-select 65 positions_in_word (composed 65 expansion (range_with_len (k + 1) 32)) bits width,
    )
    (selected form (expanded_from k) same x below))

pub IsExpansionOf-left_groups : (word : ℕ) → word < 2 ^ 64
    → IsExpansionOf (left_groups.of word) (take 32 (bits_of_word word))
unfolding bits_of select
IsExpansionOf-left_groups = IsExpansionOf-selected left_groups 0 refl (lit≤ tt) refl

pub IsExpansionOf-right_groups : (word : ℕ) → word < 2 ^ 64
    → IsExpansionOf (right_groups.of word) (drop 32 (bits_of_word word))
unfolding bits_of select
IsExpansionOf-right_groups word below =
    let width : length (drop 32 (bits_of_word word)) ≤ 32 =
    omega (arith, length-drop 32 (bits_of_word word), length-bits_of 64 word) in
    rw take_all at (IsExpansionOf-selected right_groups 32 refl (lit≤ tt) refl word below)

-- ---- the half block of an expansion

-- the middle four bits of each group, in the last 32 bits of a word
abbrev pub middle_bits : WordMap
middle_bits = joined (right_under 29 0x00000000f0f0f0f0) (right_under 1 0x000000000f0f0f0f) refl

-- they are the half block
pub bits_of-middle_bits : (groups : ℕ) → groups < 2 ^ 64 → bits_of 32 (middle_bits.of groups) ≡ half_of groups
unfolding bits_of select
bits_of-middle_bits groups below =
    sym (drop-bits_of 32 32 (middle_bits.of groups))
    ∙ ap (drop 32) (selected middle_bits (replicate 32 65 ++ half_positions) refl groups below)
