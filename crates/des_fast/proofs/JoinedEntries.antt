-- The words in which the entries for two blocks are joined: their bits, and the substitution among them.
use Rattle.std.proofs.Common.{◌≡◌, ℕ, suc, ◌+◌, ◌-◌, ◌*◌, ◌%◌, ◌^◌, ◌<◌, List, [], ◌∷◌, ◌++◌, Bool, length, map, reverse, flat_map, slice_index, subst, bit_and, bit_or, refl, sym, ap, ap₂, ◌∙◌, arith, append-nil}
use Rattle.std.specs.Simd.Lanes.{Each1, number_l, digits_l, chunk}
use Rattle.std.specs.List.{range_with_len}
use Rattle.std.proofs.lemmas.List.{reverse-append}
use Rattle.std.proofs.lemmas.List.FromFn.{fill_by_all}
use Rattle.std.proofs.lemmas.Grind.{flat_map-append}
use Rattle.std.proofs.lemmas.Nat.{and_le_r, or_lt}
use Rattle.std.proofs.lemmas.Simd.{Each1-chunk, get_or_wider}
use Rattle.des.specs.Bits.{bits_of, bits_of_word, select}
use Rattle.des.specs.CipherFunction.{substitute}
use Rattle.des.specs.Laws.BitLists.{bits_of-cat}
use Rattle.des.proofs.BitParts.{bits_of-or_shl, bits_of-and_mask}
use Rattle.des_fast.specs.Groups.{bits_of_groups}
use Rattle.des_fast.specs.JoinedEntries.{entry_bits, joined_bits, first_entries, second_entries}
use Rattle.des_fast.proofs.ChosenEntries.{entry_of, in_order-substitute}

-- ---- the words

-- the byte of two entries
abbrev joined_byte : ℕ → ℕ → ℕ
joined_byte later earlier = bit_or (later * 2 ^ 4 % 2 ^ 8) (bit_and earlier 15)

-- has their bits
bits_of-joined_byte : (later earlier : ℕ) → bits_of 8 (joined_byte later earlier) ≡ bits_of 4 later ++ bits_of 4 earlier
bits_of-joined_byte later earlier =
    bits_of-or_shl 4 4 later (bit_and earlier 15) (omega (arith, and_le_r earlier 15))
    ∙ ap (λ (bits : List Bool). bits_of 4 later ++ bits) (bits_of-and_mask 4 earlier)

-- the sixteen bytes that the code joins: it reads the entries twice in a row
abbrev pub joined_bytes : List ℕ → List ℕ
joined_bytes entries =
    let entry = λ (i : ℕ). slice_index (entries ++ entries) i in
    map (λ i. joined_byte (entry (16 + i)) (entry i)) (range_with_len 0 16)

joined_bytes-lt : (entries indexes : List ℕ)
    → let entry = λ (i : ℕ). slice_index (entries ++ entries) i in
    Each1 (λ byte. byte < 256) (map (λ i. joined_byte (entry (16 + i)) (entry i)) indexes)
joined_bytes-lt entries [] = tt
joined_bytes-lt entries (i ∷ indexes) =
    let later : ℕ = slice_index (entries ++ entries) (16 + i) in
    let low : ℕ = bit_and (slice_index (entries ++ entries) i) 15 in
    let below : low < 256 = omega (arith, and_le_r (slice_index (entries ++ entries) i) 15) in
    (or_lt 8 (later * 2 ^ 4 % 2 ^ 8) low (omega arith) below, joined_bytes-lt entries indexes)

-- the bits of a number that bytes write, the last byte first
bits_of-number_l : (bytes : List ℕ) → Each1 (λ byte. byte < 256) bytes
    → bits_of (length bytes * 8) (number_l 256 bytes) ≡ flat_map (bits_of 8) (reverse bytes)
unfolding bits_of
bits_of-number_l [] each = refl
bits_of-number_l (byte ∷ bytes) each =
    ap₂ bits_of (omega arith) (omega arith)
    ∙ bits_of-cat (length bytes * 8) 8 (number_l 256 bytes) byte each.0
    ∙ ap (λ bits. bits ++ bits_of 8 byte) (bits_of-number_l bytes each.1)
    ∙ sym (rw (reverse-append (byte ∷ []) bytes, flat_map-append, append-nil) refl)

-- the bits of the two words of these bytes, if the entries are listed
joined_word-listed : (read : ℕ → ℕ) (j : ℕ) → j < 2
    → let entries = map read (range_with_len 0 32) in
    bits_of_word (slice_index (digits_l (2 ^ 64) 2 (number_l 256 (joined_bytes entries))) j)
    ≡ joined_bits entries (8 * j + 7) (8 * j + 23)
joined_word-listed read (suc (suc j)) below = absurd (omega arith)
joined_word-listed read j below =
    let entries : List ℕ = map read (range_with_len 0 32) in
    let bytes : List ℕ = joined_bytes entries in
    let each : Each1 (λ byte. byte < 256) bytes = joined_bytes-lt entries (range_with_len 0 16) in
    ap bits_of_word (get_or_wider 256 8 (2 ^ 64) 2 bytes j refl each below)
    ∙ bits_of-number_l (chunk (8 * j) 8 bytes) (Each1-chunk (λ byte. byte < 256) (8 * j) 8 bytes each)
    ∙ simp bits_of-joined_byte

pub joined_word : (entries : List ℕ) (j : ℕ) → j < 2 → length entries ≡ 32
    → bits_of_word (slice_index (digits_l (2 ^ 64) 2 (number_l 256 (joined_bytes entries))) j)
    ≡ joined_bits entries (8 * j + 7) (8 * j + 23)
joined_word entries j below size =
    let read : ℕ → ℕ = λ i. slice_index entries i in
    subst (λ (list : List ℕ).
    bits_of_word (slice_index (digits_l (2 ^ 64) 2 (number_l 256 (joined_bytes list))) j)
    ≡ joined_bits list (8 * j + 7) (8 * j + 23))
    (sym (fill_by_all read entries 32 0 size (λ k within. refl))) (joined_word-listed read j below)

-- ---- the substitution

-- bytes have the entries of a word, in the order that is kept, the first of them at an index
abbrev pub HaveEntries : List ℕ → ℕ → ℕ → Type 0
HaveEntries entries first word =
    (i : ℕ) → i < 8 → entry_bits i (slice_index entries (first - i)) ≡ bits_of 4 (entry_of word i)

-- what the code selects of a joined word is then the substitution of the word's groups, for the earlier block
pub first_entries-substitute : (entries : List ℕ) (first later word : ℕ) → HaveEntries entries first word
    → select first_entries (joined_bits entries first later) ≡ substitute (bits_of_groups word)
unfolding bits_of select
first_entries-substitute entries first later word have =
    in_order-substitute word (λ i. entry_bits i (slice_index entries (first - i))) have

-- and for the later
pub second_entries-substitute : (entries : List ℕ) (first later word : ℕ) → HaveEntries entries later word
    → select second_entries (joined_bits entries first later) ≡ substitute (bits_of_groups word)
unfolding bits_of select
second_entries-substitute entries first later word have =
    in_order-substitute word (λ i. entry_bits i (slice_index entries (later - i))) have
