-- The entries of the combined tables, and their xor for eight groups: the substitution, P and E of the groups' bits.
use Rattle.std.proofs.Common.{◌≡◌, ℕ, ◌+◌, ◌*◌, ◌<◌, List, [], ◌∷◌, Bool, length, take, drop, slice_index, slice_index_or, bit_and, bit_or, bit_xor, refl, ap, ap₂, subst, sym, ◌∙◌, arith, zero-add, lit≤}
use Rattle.std.specs.Int.Bits.{xor_disjoint}
use Rattle.std.specs.List.{All}
use Rattle.std.proofs.lemmas.List.FromFn.{get_or-map-range_with_len}
use Rattle.std.proofs.lemmas.Nat.{or_disjoint}
use Rattle.std.proofs.lemmas.Nat.Bits.{same_from_bits, bit_at_xor}
use Rattle.des.specs.Bits.{bits_of, number_of, select, xor_bits}
use Rattle.des.specs.Tables.{selection_functions, expansion, permutation}
use Rattle.des.specs.CipherFunction.{box_entry, substitute}
use Rattle.des.specs.Laws.Selections.{length-select}
use Rattle.des.proofs.LinearWords.{and-masked}
use Rattle.des_fast.specs.declared.tables.TheConstants.{TABLES}
use Rattle.des_fast.specs.Groups.{word_of_groups, in_place, bits_of_groups}
use Rattle.des_fast.specs.CombinedTables.{combined_entry, combined_table, combined_tables}
use Rattle.des_fast.specs.SideBySide.{IsSubstitutedInto}
use Rattle.des_fast.proofs.CipherFunctionByGroups.{substitute_by-groups}
use Rattle.des_fast.proofs.HalfExpansions.{IsExpansionOf, IsExpansionOf-word, IsExpansionOf-xor}
use Rattle.des_fast.proofs.TableTests.{same_entries}
use Rattle.des_fast.proofs.XoredLists.{xor-false}

-- ---- entries

-- the tables of the code are those of the definition
pub TABLES-combined : TABLES ≡ combined_tables
unfolding bits_of number_of select box_entry
TABLES-combined = refl

-- what table i, from 0, has for a group
abbrev entry : ℕ → ℕ → ℕ
entry i group = slice_index_or (slice_index_or TABLES i []) group 0

-- P of four bits in place i of eight
abbrev permuted : ℕ → ℕ → List Bool
permuted i four = select permutation (in_place 8 (1 + i) (bits_of 4 four))

-- the entry of box i, from 0, for the six bits of its group
abbrev box_entry_of : ℕ → List Bool → ℕ
box_entry_of i six = box_entry (slice_index_or selection_functions i []) six

-- an entry of a table is the expansion of P of the entry of the box
entry-expansion : (i group : ℕ) (six : List Bool) → i < 8 → group < 64 → bits_of 6 group ≡ six
    → IsExpansionOf (entry i group) (permuted i (box_entry_of i six))
entry-expansion i group six within below same =
    let combined : entry i group ≡ word_of_groups (select expansion (permuted i (box_entry_of i (bits_of 6 group)))) =
    ap (λ tables. slice_index_or (slice_index_or tables i []) group 0) TABLES-combined
    ∙ ap (λ table. slice_index_or table group 0)
    (get_or-map-range_with_len (λ n. combined_table (1 + n) (slice_index_or selection_functions n [])) 0 8 i i [] within
    (zero-add i))
    ∙ get_or-map-range_with_len (combined_entry (1 + i) (slice_index_or selection_functions i [])) 0 64 group group 0
    below (zero-add group) in
    rw (combined, ← same) (IsExpansionOf-word _ (length-select permutation _))

-- ---- the bits that entries have

-- numbers that share no bit have the same or as xor
or-xor : (a b : ℕ) → bit_and a b ≡ 0 → bit_or a b ≡ bit_xor a b
or-xor a b apart = or_disjoint a b apart ∙ sym (xor_disjoint a b apart)

-- the bits that the entries of each box, from 0, have
abbrev box_mask : ℕ → ℕ
box_mask i =
    slice_index_or
    (0x0010100001010404 ∷ 0x0801080200100020 ∷ 0x0000202008020208 ∷ 0x1008020800002001 ∷ 0x0420001002080100 ∷ 0x0204040120000010
    ∷ 0x2002000004200802 ∷ 0x0100010410041000 ∷ []) i 0

-- ---- their xor

-- eight joined in a row
abbrev row : {A : Type 0} → (A → A → A) → (ℕ → A) → A
row join x = join (join (join (join (join (join (join (x 7) (x 6)) (x 5)) (x 4)) (x 3)) (x 2)) (x 1)) (x 0)

-- eight words in a tree, whose first step may be another
abbrev tree : (ℕ → ℕ → ℕ) → (ℕ → ℕ) → ℕ
tree join x =
    bit_xor (bit_xor (join (x 7) (x 5)) (join (x 3) (x 1))) (bit_xor (join (x 6) (x 4)) (join (x 2) (x 0)))

tree-row : (x : ℕ → ℕ) → tree bit_xor x ≡ row bit_xor x
tree-row x = same_from_bits _ _ (λ i. simp bit_at_xor (omega arith))

-- eight words in a row that begins with another, in the order of the code
abbrev row_from : ℕ → (ℕ → ℕ) → ℕ
row_from left x =
    bit_xor (bit_xor (bit_xor (bit_xor (bit_xor (bit_xor (bit_xor (bit_xor left (x 7)) (x 0)) (x 3)) (x 1)) (x 5)) (x 4)) (x 2)) (x 6)

row_from-row : (left : ℕ) (x : ℕ → ℕ) → row_from left x ≡ bit_xor left (row bit_xor x)
row_from-row left x = same_from_bits _ _ (λ i. simp bit_at_xor (omega arith))

-- the halves that the entries of the boxes stand for, each in its place, make P of the substitution
row-permuted : (bits : List Bool)
    → row xor_bits (λ i. permuted i (box_entry_of i (take 6 (drop (6 * i) bits)))) ≡ select permutation (substitute bits)
unfolding bits_of select xor_bits
row-permuted bits = rw (substitute_by-groups selection_functions 0 bits) (simp xor-false)

module _ (bits : List Bool) (groups : List ℕ) (within : All (λ group. group < 64) groups) (eight : length groups ≡ 8)
    (each : (i : ℕ) → i < 8 → bits_of 6 (slice_index groups i) ≡ take 6 (drop (6 * i) bits)) where
  -- the xor of the entries of all boxes is the expansion of P of the substitution
  IsExpansionOf-row :
      IsExpansionOf (row bit_xor (λ i. entry i (slice_index groups i))) (select permutation (substitute bits))
  IsExpansionOf-row =
      let at : (i : ℕ) → i < 8
      → IsExpansionOf (entry i (slice_index groups i)) (permuted i (box_entry_of i (take 6 (drop (6 * i) bits)))) =
      λ i below. entry-expansion i (slice_index groups i) _ below (within i 0 (omega arith)) (each i below) in
      subst (IsExpansionOf _) (row-permuted bits)
      (IsExpansionOf-xor (IsExpansionOf-xor (IsExpansionOf-xor (IsExpansionOf-xor (IsExpansionOf-xor (IsExpansionOf-xor
      (IsExpansionOf-xor (at 7 (lit≤ tt)) (at 6 (lit≤ tt))) (at 5 (lit≤ tt))) (at 4 (lit≤ tt))) (at 3 (lit≤ tt)))
      (at 2 (lit≤ tt))) (at 1 (lit≤ tt))) (at 0 (lit≤ tt)))

  -- each entry has bits of its box alone
  under : (i : ℕ) → i < 8
      → bit_and (entry i (slice_index groups i)) (box_mask i) ≡ entry i (slice_index groups i)
  under i below =
      same_entries (λ i group. bit_and (entry i group) (box_mask i)) entry 8 64 i (slice_index groups i) below
      (within i 0 (omega arith)) refl

  -- so two of them share no bit
  apart : (i j : ℕ) → i < 8 → j < 8 → bit_and (box_mask i) (box_mask j) ≡ 0
      → bit_and (entry i (slice_index groups i)) (entry j (slice_index groups j)) ≡ 0
  apart i j first second masks =
      ap₂ bit_and (sym (under i first)) (sym (under j second)) ∙ and-masked _ _ (box_mask i) (box_mask j) masks

  -- also in a tree where `|` joins pairs of them
  pub IsExpansionOf-entries :
      IsExpansionOf (tree bit_or (λ i. entry i (slice_index groups i))) (select permutation (substitute bits))
  IsExpansionOf-entries =
      let pair = λ (i j : ℕ) (first : i < 8) (second : j < 8) (masks : bit_and (box_mask i) (box_mask j) ≡ 0).
      or-xor _ _ (apart i j first second masks) in
      rw (
        pair 7 5 (lit≤ tt) (lit≤ tt) refl,
        pair 3 1 (lit≤ tt) (lit≤ tt) refl,
        pair 6 4 (lit≤ tt) (lit≤ tt) refl,
        pair 2 0 (lit≤ tt) (lit≤ tt) refl,
        tree-row (λ i. entry i (slice_index groups i)),
      ) IsExpansionOf-row

-- xored into a word in a row, they make the next word of a round
pub IsSubstitutedInto-row : (left word : ℕ) (groups : List ℕ) → All (λ group. group < 64) groups → length groups ≡ 8
    → ((i : ℕ) → i < 8 → bits_of 6 (slice_index groups i) ≡ take 6 (drop (6 * i) (bits_of_groups word)))
    → IsSubstitutedInto left word (row_from left (λ i. entry i (slice_index groups i)))
IsSubstitutedInto-row left word groups within eight each =
    let is = IsExpansionOf-row (bits_of_groups word) groups within eight each in
    record {
      change = row bit_xor (λ i. entry i (slice_index groups i));
      joined = row_from-row left (λ i. entry i (slice_index groups i));
      expansion = is.is_expansion;
      substituted = is.has_half;
    }
