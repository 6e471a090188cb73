-- Words of groups that are expansions of half blocks.
use Rattle.std.proofs.Common.{◌≡◌, ℕ, ◌<◌, ◌^◌, List, Bool, length, bit_xor, refl, ap, ap₂, sym, ◌∙◌, arith}
use Rattle.des.specs.Bits.{number_of, select, xor_bits, bits_of_word}
use Rattle.des.specs.Tables.{expansion}
use Rattle.des.specs.Laws.BitLists.{number_of-lt}
use Rattle.des.specs.Laws.Selections.{composed, length-select, select-select}
use Rattle.des.proofs.LinearWords.{select-xor_bits}
use Rattle.des_fast.specs.Groups.{positions_in_word, word_of_groups, half_positions, half_of, IsExpansion}
use Rattle.des_fast.proofs.GroupWords.{Holds, select-all, bits_of_groups-Holds, IsOfGroups-Holds, IsOfGroups-xor, bits_of_groups-xor, half_of-xor}
use Rattle.des_fast.proofs.TableTests.{bits_of-written}

-- a word that holds the expansion of a half block has the half block in it
half_of-Holds : (word : ℕ) (half : List Bool) → length half ≡ 32 → Holds word (select expansion half)
    → half_of word ≡ half
half_of-Holds word half width holds =
    ap (select half_positions) holds
    ∙ select-select 49 half_positions positions_in_word (select expansion half) (omega (arith, length-select expansion half))
    ∙ select-select 33 (composed 49 half_positions positions_in_word) expansion half (omega arith)
    ∙ select-all 32 half width

-- the word is its expansion
pub record IsExpansionOf (word : ℕ) (half : List Bool) : Type 0 where
  pub is_expansion : IsExpansion word
  pub has_half : half_of word ≡ half

-- so is one that holds its bits
pub IsExpansionOf-Holds : (word : ℕ) (half : List Bool) → word < 2 ^ 64 → length half ≡ 32
    → Holds word (select expansion half) → IsExpansionOf word half
IsExpansionOf-Holds word half below width holds =
    let found : half_of word ≡ half = half_of-Holds word half width holds in
    let size : length (select expansion half) ≡ 48 = length-select expansion half in
    record {
      is_expansion = record {
        of_groups = IsOfGroups-Holds word (select expansion half) below size holds;
        expanded = bits_of_groups-Holds word (select expansion half) size holds ∙ ap (select expansion) (sym found);
      };
      has_half = found;
    }

-- the word that the expansion of a half block makes is its expansion
pub IsExpansionOf-word : (half : List Bool) → length half ≡ 32
    → IsExpansionOf (word_of_groups (select expansion half)) half
IsExpansionOf-word half width =
    let placed : List Bool = select positions_in_word (select expansion half) in
    IsExpansionOf-Holds (number_of placed) half (rw length-select at (number_of-lt placed)) width
    (sym (bits_of-written 64 _ placed (length-select positions_in_word (select expansion half)) refl))

-- the xor of two expansions is that of the xor
pub IsExpansion-xor : (a b : ℕ) → IsExpansion a → IsExpansion b → IsExpansion (bit_xor a b)
IsExpansion-xor a b first second =
    let size : (word : ℕ) → length (half_of word) ≡ 32 =
    λ word. length-select half_positions (bits_of_word word) in
    record {
      of_groups = IsOfGroups-xor a b first.of_groups second.of_groups;
      expanded = rw (bits_of_groups-xor a b, first.expanded, second.expanded, half_of-xor a b)
          (sym (select-xor_bits expansion (half_of a) (half_of b) (size a ∙ sym (size b))));
    }

-- and so the xor of expansions of two half blocks
pub IsExpansionOf-xor : {a b : ℕ} → {half other : List Bool} → IsExpansionOf a half → IsExpansionOf b other
    → IsExpansionOf (bit_xor a b) (xor_bits half other)
IsExpansionOf-xor {a} {b} first second = record {
  is_expansion = IsExpansion-xor a b first.is_expansion second.is_expansion;
  has_half = half_of-xor a b ∙ ap₂ xor_bits first.has_half second.has_half;
}
