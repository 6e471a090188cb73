-- The entry of a box as a sum of terms, those that the six bits of a group choose.
use Rattle.std.proofs.Common.{◌≡◌, ℕ, suc, ◌+◌, ◌-◌, ◌*◌, ◌/◌, ◌%◌, ◌^◌, ◌<◌, List, Bool, true, length, nat_lt, replicate, slice_index_or, refl, ap, ◌∙◌, arith}
use Rattle.std.specs.Int.{w64, to_be_bytes}
use Rattle.std.specs.Simd.Lanes.{digits_l, number_l, Each1}
use Rattle.std.proofs.lemmas.List.{get_or-replicate}
use Rattle.std.proofs.lemmas.Simd.{get_or_narrower, Each1-replicate}
use Rattle.std.proofs.lemmas.Bool.{ltb-true, agree_below_at}
use Rattle.des.specs.Bits.{bits_of, number_of, select}
use Rattle.des.specs.CipherFunction.{box_entry}
use Rattle.des.specs.Laws.Selections.{length-select}
use Rattle.des.proofs.BitParts.{same_below}
use Rattle.des_fast.specs.declared.no_tables.four_blocks.TheConstants.{TERMS}
use Rattle.des_fast.specs.Groups.{IsOfGroups}
use Rattle.des_fast.specs.GroupBytes.{box_of_byte}
use Rattle.des_fast.specs.ChosenTerms.{choice, term, AreSums, AreChoices}
use Rattle.des_fast.specs.JoinedEntries.{entry_order, entry_bits}
use Rattle.des_fast.proofs.TableTests.{bits_of-written, same_entries}
use Rattle.des_fast.proofs.GroupBytes.{bytes-lt}

-- an entry has four bits
length-entry_bits : (i byte : ℕ) → i < 8 → length (entry_bits i byte) ≡ 4
length-entry_bits i byte within =
    length-select (entry_order i) (bits_of 4 byte)
    ∙ same_below (λ k. length (entry_order k)) (λ k. 4) 8 i refl within

-- the entry of the box of that byte, in the order that is kept
choice-entry : (i byte : ℕ) → i < 8 → byte < 64
    → entry_bits i (choice (term TERMS i) byte) ≡ bits_of 4 (box_entry (box_of_byte i) (bits_of 6 byte))
unfolding bits_of number_of select box_entry
choice-entry i byte within below =
    bits_of-written 4 _ (entry_bits i (choice (term TERMS i) byte)) (length-entry_bits i _ within)
    (same_entries (λ k group. number_of (entry_bits k (choice (term TERMS k) group)))
    (λ k group. box_entry (box_of_byte k) (bits_of 6 group)) 8 64 i byte within below refl)

-- ---- bytes of vectors

-- a word's bytes, the last one first
byte-at : (word i : ℕ) → i < 8 → word / 256 ^ (7 - i) % 256 ≡ slice_index_or (to_be_bytes w64 word) i 0
byte-at word (suc (suc (suc (suc (suc (suc (suc (suc i)))))))) below = absurd (omega arith)
byte-at word i below = omega arith

-- byte i of word q of four stands at index 8 * q + 7 - i
vector_byte-at : (words : List ℕ) (q i j : ℕ) → Each1 (λ x. x < 2 ^ 64) words → q < 4 → i < 8 → j + i ≡ 8 * q + 7
    → slice_index_or (digits_l 256 32 (number_l (2 ^ 64) words)) j 0
    ≡ slice_index_or (to_be_bytes w64 (slice_index_or words q 0)) i 0
vector_byte-at words q i j below word within place =
    let index : j ≡ 8 * q + (7 - i) = omega arith in
    ap (λ n. slice_index_or (digits_l 256 32 (number_l (2 ^ 64) words)) n 0) index
    ∙ get_or_narrower (2 ^ 64) 8 256 32 words q (7 - i) refl below (omega arith) (omega arith)
    ∙ byte-at (slice_index_or words q 0) i within

-- terms are words
term-lt : (k : ℕ) → k < 32 → slice_index_or TERMS k 0 < 2 ^ 64
term-lt k within =
    let test : ℕ → Bool = λ n. nat_lt (slice_index_or TERMS n 0) (2 ^ 64) in
    ltb-true (slice_index_or TERMS k 0) (2 ^ 64) (agree_below_at test (λ n. true) 32 k refl within)

-- a term in each of four words
pub splat_term : (k : ℕ) (bytes : List ℕ) → k < 32
    → AreSums 0 TERMS k bytes (digits_l 256 32 (number_l (2 ^ 64) (replicate 4 (slice_index_or TERMS k 0))))
splat_term k bytes within =
    let word : ℕ = slice_index_or TERMS k 0 in
    let words : List ℕ = replicate 4 word in
    record {
      count = refl;
      each = λ j below.
          vector_byte-at words (j / 8) (7 - j % 8) j
          (Each1-replicate (λ x. x < 2 ^ 64) 4 word (term-lt k within)) (omega arith) (omega arith) (omega arith)
          ∙ ap (λ (w : ℕ). slice_index_or (to_be_bytes w64 w) (7 - j % 8) 0)
          (get_or-replicate 4 (j / 8) word 0 (omega arith));
    }

-- the entry of the box of that byte, if the word is of groups
pub choice-at : (words choices : List ℕ) (q i j : ℕ) → Each1 (λ x. x < 2 ^ 64) words → q < 4 → i < 8
    → j + i ≡ 8 * q + 7 → IsOfGroups (slice_index_or words q 0)
    → AreChoices TERMS (digits_l 256 32 (number_l (2 ^ 64) words)) choices
    → entry_bits i (slice_index_or choices j 0)
    ≡ bits_of 4 (box_entry (box_of_byte i) (bits_of 6 (slice_index_or (to_be_bytes w64 (slice_index_or words q 0)) i 0)))
choice-at words choices q i j below word within place of_groups are =
    let box : 7 - j % 8 ≡ i = omega arith in
    ap (entry_bits i)
    (are.each j (omega arith)
    ∙ ap (λ n. choice (term TERMS n) (slice_index_or (digits_l 256 32 (number_l (2 ^ 64) words)) j 0)) box
    ∙ ap (choice (term TERMS i)) (vector_byte-at words q i j below word within place))
    ∙ choice-entry i (slice_index_or (to_be_bytes w64 (slice_index_or words q 0)) i 0) within
    (bytes-lt (slice_index_or words q 0) of_groups i 0 within)
