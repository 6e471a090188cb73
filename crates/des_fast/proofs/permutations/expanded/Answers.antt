use Rattle.std.proofs.Common.{◌≡◌, ℕ, suc, ◌*◌, ◌/◌, ◌%◌, ◌^◌, ◌<◌, List, [], ◌∷◌, ◌++◌, Bool, length, get_or, replicate, bit_and, bit_or, w64, Fits, refl, sym, ap, ap₂, ◌∙◌, arith, take_all}
use Rattle.std.specs.List.{flat_map, range_with_len}
use Rattle.std.specs.Simd.Lanes.{zip2}
use Rattle.std.proofs.lemmas.List.{map-append}
use Rattle.std.proofs.lemmas.Simd.{pick_l_whole, Each1-get_or}
use Rattle.des.specs.Bits.{bit, bits_of, bits_of_word, select}
use Rattle.des.specs.Tables.{expansion}
use Rattle.des.specs.Laws.Selections.{select-select, select-range_with_len}
use Rattle.des_fast.specs.Groups.{positions_in_word}
use Rattle.des_fast.proofs.GroupWords.{IsOfGroups-lt}
use Rattle.des_fast.proofs.HalfExpansions.{IsExpansionOf, IsExpansionOf-Holds}
use Rattle.des_fast.proofs.WordMaps.{WordMap, left_under, right_under, joined, selected}
use Rattle.des_fast.proofs.permutations.expanded.Goals as goal

abbrev groups : WordMap
groups = joined (left_under 29 0x3f3f3f3f00000000) (right_under 31 0x000000003f3f3f3f) refl

-- the positions that it selects from a word, of which 65 is past the last
abbrev positions : List ℕ
positions = flat_map (λ first. 65 ∷ 65 ∷ range_with_len first 6) (32 ∷ 40 ∷ 48 ∷ 56 ∷ 4 ∷ 12 ∷ 20 ∷ 28 ∷ [])

-- a half block twice
select-twice : (half : List Bool) → length half ≡ 32 → half ++ half ≡ select (range_with_len 1 32 ++ range_with_len 1 32) half
unfolding select
select-twice half width =
    let whole : half ≡ select (range_with_len 1 32) half =
    sym (select-range_with_len 0 32 half (omega arith) ∙ take_all 32 half (omega arith)) in
    ap₂ ◌++◌ whole whole ∙ sym (map-append (bit half) (range_with_len 1 32) (range_with_len 1 32))

-- of that they are the expansion's
select-positions : (half : List Bool) → length half ≡ 32
    → select positions (half ++ half) ≡ select positions_in_word (select expansion half)
select-positions half width =
    ap (select positions) (select-twice half width)
    ∙ select-select 33 positions (range_with_len 1 32 ++ range_with_len 1 32) half (omega arith)
    ∙ sym (select-select 33 positions_in_word expansion half (omega arith))

IsExpansionOf-groups : (word : ℕ) (half : List Bool) → word < 2 ^ 64 → length half ≡ 32 → bits_of_word word ≡ half ++ half
    → IsExpansionOf (groups.of word) half
unfolding bits_of select
IsExpansionOf-groups word half below width twice =
    IsExpansionOf-Holds (groups.of word) half (IsOfGroups-lt (groups.of word) (groups.is.under word)) width
    (selected groups positions refl word below ∙ ap (select positions) twice ∙ select-positions half width)

-- the same of both words
abbrev all : List ℕ → List ℕ
all words =
    zip2 bit_or
    (zip2 bit_and (zip2 (λ a b. a * 2 ^ b % 2 ^ 64) words (replicate 2 29)) (replicate 2 0x3f3f3f3f00000000))
    (zip2 bit_and (zip2 (λ a b. a / 2 ^ b) words (replicate 2 31)) (replicate 2 0x000000003f3f3f3f))

all-lane : (words : List ℕ) → length words ≡ 2 → (b : ℕ) → b < 2 → get_or (all words) b 0 ≡ groups.of (get_or words b 0)
all-lane words count (suc (suc b)) within = absurd (omega arith)
all-lane words count b within = ap (λ (ws : List ℕ). get_or (all ws) b 0) (sym (pick_l_whole 0 words 2 count))

pub returns : goal.returns
returns c b within half width twice =
    let words : List ℕ = c.args.words in
    let fits = (Each1-get_or (Fits w64) words b 0 (omega (arith, c.fits-words.0)) c.fits-words.1).fits in
    let is = IsExpansionOf-groups (get_or words b 0) half fits width twice in
    rw (all-lane words c.fits-words.0 b within) (is.is_expansion, is.has_half)
