-- P and E of the entries in a word, by shifts and masks, select the bits that they should.
use Rattle.std.proofs.Common.{◌≡◌, ℕ, ◌^◌, ◌<◌, List, Bool, length, refl, arith}
use Rattle.des.specs.Bits.{bits_of, bits_of_word, select}
use Rattle.des.specs.Tables.{expansion, permutation}
use Rattle.des.specs.Laws.BitLists.{length-bits_of}
use Rattle.des.specs.Laws.Selections.{composed, select-select}
use Rattle.des_fast.specs.Groups.{positions_in_word, IsOfGroups}
use Rattle.des_fast.specs.JoinedEntries.{first_entries, second_entries}
use Rattle.des_fast.proofs.WordMaps.{WordMap, left_under, right_under, under, left, right, joined, Selects, selected}

-- ---- P

-- the terms of P, by the way and how far they shift
abbrev to_right : WordMap
to_right =
    joined (joined (joined (right_under 7 0x0088008800000088) (right_under 8 0x0000000022880000) refl)
    (right_under 16 0x0000880011000000) refl) (right_under 25 0x0000000044444400) refl

abbrev far_to_right : WordMap
far_to_right =
    joined (joined (joined (right_under 34 0x0000000000110011) (right_under 40 0x0000000000001100) refl)
    (right_under 47 0x0000000000002244) refl) (right_under 56 0x0000000000000022) refl

abbrev to_left : WordMap
to_left =
    joined (joined (joined (left_under 8 0x0000001100008800) (left_under 16 0x2211444400220000) refl)
    (left_under 24 0x0000110000000000) refl) (left_under 25 0x0000000088000000) refl

abbrev far_to_left : WordMap
far_to_left =
    joined (joined (left_under 33 0x4444222200000000) (left_under 40 0x8822000000000000) refl)
    (left_under 45 0x1100000000000000) refl

-- P of the entries for both blocks: the earlier in the second halves of the bytes, and the later
abbrev pub earlier : WordMap
earlier = joined (joined to_right far_to_right refl) (joined to_left far_to_left refl) refl

abbrev pub later : WordMap
later = right 4 earlier

-- ---- E

-- the middle four bits of each group
abbrev middle : WordMap → WordMap
middle form = under 0x1e1e1e1e1e1e1e1e (left 1 form)

-- and all six
abbrev pub expanded : WordMap → WordMap
expanded form =
    joined
    (joined (middle form) (under 0x0121212100000000 (left 28 (middle form))) refl)
    (joined (under 0x0000000021212120 (right 28 (middle form)))
    (joined (under 0x2000000000000000 (left 60 (middle form))) (under 0x0000000000000001 (right 60 (middle form))) refl)
    refl) refl

-- they make a word of groups
pub IsOfGroups-expanded : (form : WordMap) (x : ℕ) → IsOfGroups ((expanded form).of x)
IsOfGroups-expanded form x = (expanded form).is.under x

-- ---- what they select

-- E of P of the bits at some positions, as one list of positions
abbrev expanded_positions : List ℕ → List ℕ
expanded_positions entries =
    composed 65 positions_in_word (composed 65 expansion (composed 65 permutation entries))

selects : (form : WordMap) (entries : List ℕ) → Selects form (expanded_positions entries) → (x : ℕ) → x < 2 ^ 64
    → bits_of_word (form.of x)
    ≡ select positions_in_word (select expansion (select permutation (select entries (bits_of_word x))))
selects form entries same x below =
    let bits : List Bool = bits_of_word x in
    let width : length bits < 65 = omega (arith, length-bits_of 64 x) in
    rw (
      select-select 65 permutation entries bits width,
      select-select 65 expansion (composed 65 permutation entries) bits width,
      select-select 65 positions_in_word (composed 65 expansion (composed 65 permutation entries)) bits width,
    )
    (selected form (expanded_positions entries) same x below)

-- for the earlier block of a word
pub expanded-earlier : (x : ℕ) → x < 2 ^ 64
    → bits_of_word ((expanded earlier).of x)
    ≡ select positions_in_word (select expansion (select permutation (select first_entries (bits_of_word x))))
unfolding bits_of select
expanded-earlier = selects (expanded earlier) first_entries refl

-- and for the later
pub expanded-later : (x : ℕ) → x < 2 ^ 64
    → bits_of_word ((expanded later).of x)
    ≡ select positions_in_word (select expansion (select permutation (select second_entries (bits_of_word x))))
unfolding bits_of select
expanded-later = selects (expanded later) second_entries refl
