-- The cipher function group by group: the six bits that each box replaces, and where P puts the four bits of its entry.
use Rattle.std.proofs.Common.{◌≡◌, ℕ, zero, suc, ◌+◌, ◌-◌, ◌*◌, ◌%◌, ◌<◌, Bool, false, List, [], ◌∷◌, ◌++◌, length, map, take, drop, get_or, slice_set, slice_index_or, refl, sym, ap, ◌∙◌, arith}
use Rattle.std.specs.List.{flat_map, range_with_len}
use Rattle.std.proofs.lemmas.List.{ext_get_or, get_or-take, get_or-drop, get_or-map, length-take, length-drop, drop-drop}
use Rattle.std.proofs.lemmas.List.FromFn.{fill_by_all}
use Rattle.des.specs.Bits.{bit, bits_of, select, xor, xor_bits}
use Rattle.des.specs.Tables.{Box, selection_functions, expansion, permutation}
use Rattle.des.specs.CipherFunction.{box_entry, substitute, substitute_by}
use Rattle.des.specs.Laws.Selections.{length-select, length-xor_bits}
use Rattle.des.proofs.LinearWords.{bit-xor_bits}
use Rattle.des_fast.specs.Slices.{xor_at}
use Rattle.des_fast.proofs.TableTests.{same_entries}

-- ---- the group of a box

-- the index of the bit that E puts at index k of group n
expansion-group : (n k : ℕ) → n < 8 → k < 6 → get_or expansion (6 * n + k) 0 - 1 ≡ (4 * n + k + 31) % 32
expansion-group n k group within =
    same_entries (λ m j. get_or expansion (6 * m + j) 0 - 1) (λ m j. (4 * m + j + 31) % 32) 8 6 n k group within refl

-- that bit of an expanded half block
get_or-select_expansion : (half : List Bool) (n k : ℕ) → n < 8 → k < 6
    → get_or (select expansion half) (6 * n + k) false ≡ get_or half ((4 * n + k + 31) % 32) false
unfolding select
get_or-select_expansion half n k group within =
    let inside : 6 * n + k < length expansion = omega arith in
    get_or-map (bit half) expansion (6 * n + k) 0 false inside
    ∙ ap (λ (i : ℕ). get_or half i false) (expansion-group n k group within)

-- six bits that are xors of those of a group are the group of the xor
pub group-xor_bits : (n : ℕ) (group half key : List Bool) → n < 8 → length group ≡ 6 → length key ≡ 48
    → ((k : ℕ) → k < 6
    → get_or group k false ≡ xor (get_or half ((4 * n + k + 31) % 32) false) (get_or key (6 * n + k) false))
    → group ≡ take 6 (drop (6 * n) (xor_bits (select expansion half) key))
group-xor_bits n group half key within six size each =
    let expanded : List Bool = select expansion half in
    let same : length expanded ≡ length key = length-select expansion half ∙ sym size in
    let mixed : List Bool = xor_bits expanded key in
    let long : length mixed ≡ 48 = length-xor_bits expanded key same ∙ length-select expansion half in
    let rest : List Bool = drop (6 * n) mixed in
    let last : length (take 6 rest) ≡ 6 = rw (length-take 6 rest, length-drop (6 * n) mixed, long) (omega arith) in
    ext_get_or false group (take 6 rest) (six ∙ sym last) (λ k below.
    let k_below : k < 6 = omega arith in
    each k k_below
    ∙ ap (λ (bit : Bool). xor bit (get_or key (6 * n + k) false))
    (sym (get_or-select_expansion half n k within k_below))
    ∙ sym (bit-xor_bits expanded key (6 * n + k) same)
    ∙ sym (get_or-drop (6 * n) mixed k false)
    ∙ sym (get_or-take 6 rest k false k_below))

-- ---- the place of an entry

-- one more bit xored
pub xor_at-more : (bits : List Bool) (indexes : List ℕ) (changes : List Bool) (i : ℕ) → i < length indexes
    → i < length changes → xor_at bits (take (suc i) indexes) (take (suc i) changes)
    ≡ xor_at (xor_at bits (take i indexes) (take i changes)) (get_or indexes i 0 ∷ []) (get_or changes i false ∷ [])
xor_at-more bits [] changes i within inside = absurd (omega arith)
xor_at-more bits (index ∷ indexes) [] i within inside = absurd (omega arith)
xor_at-more bits (index ∷ indexes) (change ∷ changes) zero within inside = refl
xor_at-more bits (index ∷ indexes) (change ∷ changes) (suc i) within inside =
    xor_at-more (slice_set bits index (xor (slice_index_or bits index false) change)) indexes changes i (omega arith)
    (omega arith)

-- the entry of a box for its group
abbrev pub entry : Box → ℕ → List Bool → ℕ
entry box n bits = box_entry box (take 6 (drop (6 * n) bits))

-- the bits of the entries of boxes for the groups from group n on
abbrev pub entries_from : List Box → ℕ → List Bool → List Bool
entries_from [] n bits = []
entries_from (box ∷ boxes) n bits = bits_of 4 (entry box n bits) ++ entries_from boxes (n + 1) bits

-- they are the substitution by these boxes
pub substitute_by-groups : (boxes : List Box) (n : ℕ) (bits : List Bool)
    → substitute_by boxes (drop (6 * n) bits) ≡ entries_from boxes n bits
unfolding substitute_by
substitute_by-groups [] n bits = refl
substitute_by-groups (box ∷ boxes) n bits =
    let next : drop 6 (drop (6 * n) bits) ≡ drop (6 * (n + 1)) bits =
    drop-drop 6 (6 * n) bits ∙ ap (λ (k : ℕ). drop k bits) (omega arith) in
    ap (λ rest. bits_of 4 (entry box n bits) ++ rest)
    (ap (substitute_by boxes) next ∙ substitute_by-groups boxes (n + 1) bits)

-- eight entries, xored in where P puts their bits
abbrev xor_entries : List Bool → (ℕ → ℕ) → List Bool
xor_entries left x =
    let left_1 = xor_at left (8 ∷ 16 ∷ 22 ∷ 30 ∷ []) (bits_of 4 (x 0)) in
    let left_2 = xor_at left_1 (12 ∷ 27 ∷ 1 ∷ 17 ∷ []) (bits_of 4 (x 1)) in
    let left_3 = xor_at left_2 (23 ∷ 15 ∷ 29 ∷ 5 ∷ []) (bits_of 4 (x 2)) in
    let left_4 = xor_at left_3 (25 ∷ 19 ∷ 9 ∷ 0 ∷ []) (bits_of 4 (x 3)) in
    let left_5 = xor_at left_4 (7 ∷ 13 ∷ 24 ∷ 2 ∷ []) (bits_of 4 (x 4)) in
    let left_6 = xor_at left_5 (3 ∷ 28 ∷ 10 ∷ 18 ∷ []) (bits_of 4 (x 5)) in
    let left_7 = xor_at left_6 (31 ∷ 11 ∷ 21 ∷ 6 ∷ []) (bits_of 4 (x 6)) in
    xor_at left_7 (4 ∷ 26 ∷ 14 ∷ 20 ∷ []) (bits_of 4 (x 7))

-- the same of 32 bits that are written out
xor_entries-listed : (read : ℕ → Bool) (x : ℕ → ℕ)
    → let left = map read (range_with_len 0 32) in
    xor_entries left x ≡ xor_bits left (select permutation (flat_map (λ n. bits_of 4 (x n)) (range_with_len 0 8)))
unfolding bits_of select xor_bits
xor_entries-listed read x = refl

-- the entries of the boxes for their groups, xored in where P puts their bits, are the substitution permuted by P
pub xor_entries-substitute : (left mixed : List Bool) → length left ≡ 32
    → xor_entries left (λ n. entry (slice_index_or selection_functions n []) n mixed)
    ≡ xor_bits left (select permutation (substitute mixed))
xor_entries-substitute left mixed size =
    let x : ℕ → ℕ = λ n. entry (slice_index_or selection_functions n []) n mixed in
    let read : ℕ → Bool = λ i. get_or left i false in
    let listed : left ≡ map read (range_with_len 0 32) = fill_by_all read left 32 false size (λ k below. refl) in
    rw (listed, substitute_by-groups selection_functions 0 mixed) (xor_entries-listed read x)
