-- Words of groups: their bits are those of their 48, and one is what 48 bits make.
use Rattle.std.proofs.Common.{◌≡◌, ℕ, ◌<◌, ◌^◌, List, Bool, length, bit_and, bit_xor, refl, ap, ap₂, sym, ◌∙◌, arith, take_all, append-nil}
use Rattle.std.specs.List.{range_with_len}
use Rattle.std.proofs.lemmas.Nat.{and_le_r}
use Rattle.des.specs.Bits.{bits_of, bits_of_word, number_of, select, xor_bits}
use Rattle.des.specs.Laws.BitLists.{length-bits_of, number_of-bits_of_word}
use Rattle.des.specs.Laws.Selections.{composed, select-select, select-range_with_len}
use Rattle.des.proofs.BitParts.{bits_of-xor}
use Rattle.des.proofs.LinearWords.{IsLinear-id, IsLinear-mask, and-xor, select-xor_bits, select-from_units}
use Rattle.des.proofs.LinearUnder.{and-same}
use Rattle.des_fast.specs.Groups.{group_positions, positions_in_word, half_positions, bits_of_groups, half_of, IsOfGroups}

-- the word has these bits in its groups, and zeros beside them
abbrev pub Holds : ℕ → List Bool → Type 0
Holds word bits = bits_of_word word ≡ select positions_in_word bits

-- the first n bits of a list of them are the list
pub select-all : (n : ℕ) (bits : List Bool) → length bits ≡ n → select (range_with_len 1 n) bits ≡ bits
select-all n bits width = select-range_with_len 0 n bits (omega arith) ∙ take_all n bits (omega arith)

-- its groups are then these bits
pub bits_of_groups-Holds : (word : ℕ) (bits : List Bool) → length bits ≡ 48 → Holds word bits
    → bits_of_groups word ≡ bits
bits_of_groups-Holds word bits width holds =
    rw (holds, select-select 49 group_positions positions_in_word bits (omega arith)) (select-all 48 bits width)

-- a mask keeps the groups, with zeros beside them
pub bits_of_word-mask : (x : ℕ) → x < 2 ^ 64 → Holds (bit_and x 0x3f3f3f3f3f3f3f3f) (bits_of_groups x)
unfolding bits_of select
bits_of_word-mask x below =
    rw (select-select 65 positions_in_word group_positions (bits_of_word x) (omega (arith, length-bits_of 64 x)))
    (select-from_units (λ u. bit_and u 0x3f3f3f3f3f3f3f3f) (composed 65 positions_in_word group_positions) 0
    (IsLinear-mask 0x3f3f3f3f3f3f3f3f IsLinear-id) refl x below ∙ append-nil _)

-- a word of groups is below 2 ^ 64
pub IsOfGroups-lt : (word : ℕ) → IsOfGroups word → word < 2 ^ 64
IsOfGroups-lt word of_groups = omega (arith, of_groups, and_le_r word 0x3f3f3f3f3f3f3f3f)

-- it holds the bits of its groups
pub Holds-groups : (word : ℕ) → IsOfGroups word → Holds word (bits_of_groups word)
Holds-groups word of_groups =
    ap bits_of_word (sym of_groups) ∙ bits_of_word-mask word (IsOfGroups-lt word of_groups)

-- a word that holds 48 bits is a word of groups
pub IsOfGroups-Holds : (word : ℕ) (bits : List Bool) → word < 2 ^ 64 → length bits ≡ 48 → Holds word bits
    → IsOfGroups word
IsOfGroups-Holds word bits below width holds =
    let masked : ℕ = bit_and word 0x3f3f3f3f3f3f3f3f in
    let same = rw (bits_of_groups-Holds word bits width holds, ← holds) at (bits_of_word-mask word below) in
    sym (number_of-bits_of_word masked (IsOfGroups-lt masked (and-same word 0x3f3f3f3f3f3f3f3f)))
    ∙ ap number_of same ∙ number_of-bits_of_word word below

-- ---- xor

-- the xor of two words of groups is one
pub IsOfGroups-xor : (a b : ℕ) → IsOfGroups a → IsOfGroups b → IsOfGroups (bit_xor a b)
IsOfGroups-xor a b first second = and-xor a b 0x3f3f3f3f3f3f3f3f ∙ ap₂ bit_xor first second

-- a selection from the bits of a xor is the xor of the selections
select-xor : (places : List ℕ) (a b : ℕ)
    → select places (bits_of_word (bit_xor a b))
    ≡ xor_bits (select places (bits_of_word a)) (select places (bits_of_word b))
select-xor places a b =
    rw (bits_of-xor 64 a b)
    (select-xor_bits places (bits_of_word a) (bits_of_word b) (length-bits_of 64 a ∙ sym (length-bits_of 64 b)))

-- it has the xor of the groups
pub bits_of_groups-xor : (a b : ℕ) → bits_of_groups (bit_xor a b) ≡ xor_bits (bits_of_groups a) (bits_of_groups b)
bits_of_groups-xor a b = select-xor group_positions a b

-- and the xor of the half blocks
pub half_of-xor : (a b : ℕ) → half_of (bit_xor a b) ≡ xor_bits (half_of a) (half_of b)
half_of-xor a b = select-xor half_positions a b
