-- The entry of a box that the six bits of a group choose, one after another.
use Rattle.std.proofs.Common.{◌≡◌, ℕ, zero, suc, ◌+◌, ◌*◌, ◌^◌, ◌<◌, cond, Bool, List, [], take, drop, flat_map, slice_index_or, lit≤, refl, sym, ap, ◌∙◌}
use Rattle.std.specs.Int.{w64, to_be_bytes}
use Rattle.des.specs.Bits.{bits_of, bits_of_word, number_of, select}
use Rattle.des.specs.Tables.{selection_functions, expansion, permutation}
use Rattle.des.specs.CipherFunction.{box_entry, substitute}
use Rattle.des.specs.Laws.Selections.{length-select}
use Rattle.des_fast.specs.declared.no_tables.boxes.TheConstants.{ENTRIES}
use Rattle.des_fast.specs.Groups.{IsOfGroups, bits_of_groups, positions_in_word}
use Rattle.des_fast.specs.GroupBytes.{box_of_byte, byte_order, in_order}
use Rattle.des_fast.proofs.ByteTests.{has}
use Rattle.des_fast.proofs.TableTests.{same_entries}
use Rattle.des_fast.proofs.CipherFunctionByGroups.{substitute_by-groups}
use Rattle.des_fast.proofs.GroupBytes.{bytes-lt, bits_of-in_order}
use Rattle.des_fast.proofs.HalfExpansions.{IsExpansionOf, IsExpansionOf-Holds}

-- of 2 ^ n values, that which the last n bits of a byte choose
abbrev chosen : ℕ → (ℕ → ℕ) → ℕ → ℕ
chosen zero value byte = value 0
chosen (suc n) value byte = cond (has byte (2 ^ n)) (chosen n (λ k. value (2 ^ n + k)) byte) (chosen n value byte)

-- what the vectors of the code hold in byte i for a group: its row, and its value of the first two bits
abbrev kept : ℕ → ℕ → ℕ → ℕ
kept i pair row = slice_index_or (slice_index_or ENTRIES row []) (8 * pair + i) 0

-- what a group chooses of them
abbrev pub choice : ℕ → ℕ → ℕ
choice i byte =
    cond (has byte 16)
    (cond (has byte 32) (chosen 4 (kept i 3) byte) (chosen 4 (kept i 1) byte))
    (cond (has byte 32) (chosen 4 (kept i 2) byte) (chosen 4 (kept i 0) byte))

-- is the entry of the box of that byte
pub choice-entry : (i byte : ℕ) → i < 8 → byte < 64 → choice i byte ≡ box_entry (box_of_byte i) (bits_of 6 byte)
unfolding bits_of number_of box_entry
choice-entry i byte within below =
    same_entries choice (λ k group. box_entry (box_of_byte k) (bits_of 6 group)) 8 64 i byte within below refl

-- so if the byte is that of a word of groups
pub choice-at : (word byte i : ℕ) → IsOfGroups word → i < 8 → byte ≡ slice_index_or (to_be_bytes w64 word) i 0
    → choice i byte ≡ box_entry (box_of_byte i) (bits_of 6 (slice_index_or (to_be_bytes w64 word) i 0))
choice-at word byte i of_groups within same =
    ap (choice i) same
    ∙ choice-entry i (slice_index_or (to_be_bytes w64 word) i 0) within (bytes-lt word of_groups i 0 within)

-- ---- the entries of a word

-- the entry of the box of a byte, for the byte of a word of groups
abbrev pub entry_of : ℕ → ℕ → ℕ
entry_of word i = box_entry (box_of_byte i) (bits_of 6 (slice_index_or (to_be_bytes w64 word) i 0))

-- four bits for each byte that are those of its entry are, in the order of the boxes, the substitution of the groups
pub in_order-substitute : (word : ℕ) (four : ℕ → List Bool) → ((i : ℕ) → i < 8 → four i ≡ bits_of 4 (entry_of word i))
    → flat_map four byte_order ≡ substitute (bits_of_groups word)
in_order-substitute word four each =
    let group : (n : ℕ) → n < 8 → bits_of 6 (slice_index_or (in_order (to_be_bytes w64 word)) n 0)
    ≡ take 6 (drop (6 * n) (bits_of_groups word)) = bits_of-in_order word in
    rw (each 0 (lit≤ tt), each 4 (lit≤ tt), each 1 (lit≤ tt), each 5 (lit≤ tt)) (
    rw (each 2 (lit≤ tt), each 6 (lit≤ tt), each 3 (lit≤ tt), each 7 (lit≤ tt)) (
    rw (group 0 (lit≤ tt), group 1 (lit≤ tt), group 2 (lit≤ tt), group 3 (lit≤ tt)) (
    rw (group 4 (lit≤ tt), group 5 (lit≤ tt), group 6 (lit≤ tt), group 7 (lit≤ tt))
    (sym (substitute_by-groups selection_functions 0 (bits_of_groups word))))))

-- a word whose bits are those of E of P of them is a word of groups of that
pub IsExpansionOf-substitute : (word result : ℕ) (replaced : List Bool) → result < 2 ^ 64
    → bits_of_word result ≡ select positions_in_word (select expansion (select permutation replaced))
    → replaced ≡ substitute (bits_of_groups word)
    → IsExpansionOf result (select permutation (substitute (bits_of_groups word)))
IsExpansionOf-substitute word result replaced below holds same =
    IsExpansionOf-Holds result (select permutation (substitute (bits_of_groups word))) below
    (length-select permutation _)
    (holds ∙ ap (λ bits. select positions_in_word (select expansion (select permutation bits))) same)
