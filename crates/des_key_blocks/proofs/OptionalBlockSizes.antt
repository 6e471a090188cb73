-- How many characters optional blocks have: one more, and a front of them.
use Rattle.std.proofs.Common.{◌≡◌, ◌≢◌, ℕ, ◌+◌, ◌-◌, ◌%◌, ◌<◌, ◌≤◌, List, [], ◌∷◌, ◌++◌, length, map, take, drop, replicate, get_or, codes, sym, ap, ◌∙◌, arith}
use Rattle.std.proofs.lemmas.Bool.Decides.{nat_tests}
use Rattle.std.proofs.lemmas.List.{take-append-drop, take_all, take_more, length-map, length-replicate, get_or-map}
use Rattle.des_key_blocks.specs.OptionalBlocks.{size_of, size_of_all, filling, filled}
use Rattle.des_key_blocks.specs.declared.optional_blocks.OptionalBlock.{OptionalBlock}

pub size_of_all-append : (blocks others : List (List ℕ × List ℕ))
    → size_of_all (blocks ++ others) ≡ size_of_all blocks + size_of_all others
unfolding size_of_all
size_of_all-append [] others = omega arith
size_of_all-append (block ∷ blocks) others = omega (arith, size_of_all-append blocks others)

pub size_of_all-one : (block : List ℕ × List ℕ) → size_of_all (block ∷ []) ≡ size_of block.1
unfolding size_of_all
size_of_all-one block = omega arith

-- one block more
pub size_of_all-more : (blocks : List (List ℕ × List ℕ)) (i : ℕ) (d : List ℕ × List ℕ) → i < length blocks
    → size_of_all (take (i + 1) blocks) ≡ size_of_all (take i blocks) + size_of (get_or blocks i d).1
size_of_all-more blocks i d within =
    ap size_of_all (take_more blocks i d within) ∙ size_of_all-append (take i blocks) (get_or blocks i d ∷ [])
    ∙ ap (λ n. size_of_all (take i blocks) + n) (size_of_all-one (get_or blocks i d))

-- a front has not more than all
pub size_of_all-front : (blocks : List (List ℕ × List ℕ)) (i : ℕ) → size_of_all (take i blocks) ≤ size_of_all blocks
size_of_all-front blocks i =
    let both : size_of_all (take i blocks) + size_of_all (drop i blocks) ≡ size_of_all blocks =
    sym (size_of_all-append (take i blocks) (drop i blocks)) ∙ ap size_of_all (take-append-drop i blocks) in
    omega arith

-- four characters stand before the content at least
pub size_of-least : (content : List ℕ) → length content + 4 ≤ size_of content
size_of-least content = grind (arith, nat_tests)

-- ---- the block that fills others to a multiple of eight characters

-- its content
abbrev pub zeros_for : ℕ → List ℕ
zeros_for size = replicate ((12 - size % 8) % 8) 48

pub filling-one : (size : ℕ) → size % 8 ≢ 0 → filling size ≡ (codes "PB", zeros_for size) ∷ []
filling-one size part = grind (arith, nat_tests)

pub size_of-short : (content : List ℕ) → length content + 4 < 256 → size_of content ≡ length content + 4
size_of-short content short = grind (arith, nat_tests)

pub size_of-long : (content : List ℕ) → 256 ≤ size_of content → size_of content ≡ length content + 10
size_of-long content long = grind (arith, nat_tests)

pub size_of-zeros : (size : ℕ) → size_of (zeros_for size) ≡ (12 - size % 8) % 8 + 4
size_of-zeros size =
    let count : length (zeros_for size) ≡ (12 - size % 8) % 8 = length-replicate ((12 - size % 8) % 8) 48 in
    size_of-short (zeros_for size) (omega arith) ∙ ap (λ n. n + 4) count

pub size-filled : (blocks : List (List ℕ × List ℕ)) → size_of_all blocks % 8 ≢ 0
    → size_of_all (filled blocks) ≡ size_of_all blocks + 4 + (12 - size_of_all blocks % 8) % 8
size-filled blocks part =
    let size : ℕ = size_of_all blocks in
    let block : List ℕ × List ℕ = (codes "PB", zeros_for size) in
    let last : size_of_all (filling size) ≡ (12 - size % 8) % 8 + 4 =
    ap size_of_all (filling-one size part) ∙ size_of_all-one block ∙ size_of-zeros size in
    omega (arith, size_of_all-append blocks (filling size), last)

-- with that block there are not fewer
pub size-filled_least : (blocks : List (List ℕ × List ℕ)) → size_of_all blocks ≤ size_of_all (filled blocks)
size-filled_least blocks = omega (arith, size_of_all-append blocks (filling (size_of_all blocks)))

-- ---- blocks as a list of names and contents

abbrev pub pair_of : OptionalBlock → List ℕ × List ℕ
pair_of block = (block.name, block.content.now)

abbrev pub pairs_of : List OptionalBlock → List (List ℕ × List ℕ)
pairs_of blocks = map (λ block. (block.name, block.content.now)) blocks

-- what stands at an index past the end
abbrev pub no_block : OptionalBlock
no_block = record { name = []; content = record { ref_ptr = (0, 0); now = [] } }

pub size-more : (blocks : List OptionalBlock) (i : ℕ) (d : OptionalBlock) → i < length blocks
    → size_of_all (take (i + 1) (pairs_of blocks))
    ≡ size_of_all (take i (pairs_of blocks)) + size_of (get_or blocks i d).content.now
size-more blocks i d within =
    size_of_all-more (pairs_of blocks) i (pair_of d) (omega (arith, length-map blocks pair_of))
    ∙ ap (λ (block : List ℕ × List ℕ). size_of_all (take i (pairs_of blocks)) + size_of block.1)
    (get_or-map pair_of blocks i d (pair_of d) within)

-- those so far and the next have not more than all
pub size-within : (blocks : List OptionalBlock) (i : ℕ) (d : OptionalBlock) → i < length blocks
    → size_of_all (take i (pairs_of blocks)) + size_of (get_or blocks i d).content.now ≤ size_of_all (pairs_of blocks)
size-within blocks i d within =
    omega (arith, size-more blocks i d within, size_of_all-front (pairs_of blocks) (i + 1))

-- all of them
pub all-pairs : (blocks : List OptionalBlock) (i : ℕ) → length blocks ≤ i → take i (pairs_of blocks) ≡ pairs_of blocks
all-pairs blocks i all = take_all i (pairs_of blocks) (omega (arith, length-map blocks pair_of))

-- one more
pub more-pairs : (blocks : List OptionalBlock) (i : ℕ) (d : OptionalBlock) → i < length blocks
    → take (i + 1) (pairs_of blocks) ≡ take i (pairs_of blocks) ++ pair_of (get_or blocks i d) ∷ []
more-pairs blocks i d within =
    take_more (pairs_of blocks) i (pair_of d) (omega (arith, length-map blocks pair_of))
    ∙ ap (λ (block : List ℕ × List ℕ). take i (pairs_of blocks) ++ block ∷ [])
    (get_or-map pair_of blocks i d (pair_of d) within)
