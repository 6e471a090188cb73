-- The optional block at a place of a text of them: none, the first, and one after the first; and the text up to its end.
use Rattle.std.proofs.Common.{◌≡◌, ◌≢◌, ℕ, zero, suc, ◌+◌, ◌-◌, List, [], ◌∷◌, ◌++◌, length, take, drop, Option, Some, None, refl, sym, ap, ap₂, ◌∙◌, subst, arith}
use Rattle.std.specs.Prelude.{slice_get}
use Rattle.std.proofs.Math.Seq.{take-nil}
use Rattle.std.proofs.lemmas.List.{length-take, take_at, drop_at}
use Rattle.des_key_blocks.specs.OptionalBlocks.{IsOptionalBlock, AreOptionalBlocks}
use Rattle.des_key_blocks.proofs.OptionalBlockLists.{block-before}
use Rattle.des_key_blocks.proofs.OneBlockTexts.{name-once, content-once}
use Rattle.des_key_blocks.proofs.OptionalBlockTexts.{block-least}

-- a text begins with a block that is so long
abbrev pub BeginsWith : List ℕ → ℕ → Type 0
BeginsWith text size =
    (name content first rest : List ℕ) → IsOptionalBlock name content first → text ≡ first ++ rest → size ≡ length first

abbrev pub BeginsWithNone : List ℕ → Type 0
BeginsWithNone text =
    (name content first rest : List ℕ) → IsOptionalBlock name content first → text ≡ first ++ rest → ⊥

pub place-none : (blocks : List (List ℕ × List ℕ)) (text : List ℕ) (place : ℕ) → AreOptionalBlocks blocks text
    → BeginsWithNone text → None ≡ slice_get blocks place
unfolding AreOptionalBlocks
place-none [] text place are none = refl
place-none (block ∷ blocks) text place are none =
    absurd (none block.0 block.1 are.0 are.1.0 are.1.1.1 are.1.1.0)

-- no block is empty
empty-none : (name content text : List ℕ) (size : ℕ) → text ≡ [] → IsOptionalBlock name content (take size text) → ⊥
empty-none name content text size is block =
    omega (arith, block-least name content (take size text) block, length-take size text, ap length is)

pub place-first : (blocks : List (List ℕ × List ℕ)) (name content text : List ℕ) (size : ℕ)
    → AreOptionalBlocks blocks text → IsOptionalBlock name content (take size text) → BeginsWith text size
    → Some (name, content) ≡ slice_get blocks 0
unfolding AreOptionalBlocks
place-first [] name content text size are found only = absurd (empty-none name content text size are found)
place-first (block ∷ blocks) name content text size are found only =
    let first : List ℕ = are.0 in
    let count : size ≡ length first = only block.0 block.1 first are.1.0 are.1.1.1 are.1.1.0 in
    let there : take size text ≡ first = ap (take size) are.1.1.0 ∙ take_at first are.1.0 size (sym count) in
    let same = subst (λ (t : List ℕ). IsOptionalBlock name content t) there found in
    ap₂ (λ (n c : List ℕ). Some (n, c))
    (sym (name-once name content first same) ∙ name-once block.0 block.1 first are.1.1.1)
    (content-once name content block.0 block.1 first same are.1.1.1)

pub place-after : (blocks : List (List ℕ × List ℕ)) (name content text : List ℕ) (size place : ℕ)
    (found_block : Option (List ℕ × List ℕ)) → AreOptionalBlocks blocks text
    → IsOptionalBlock name content (take size text) → BeginsWith text size → place ≢ 0
    → ((others : List (List ℕ × List ℕ)) → AreOptionalBlocks others (drop size text)
    → found_block ≡ slice_get others (place - 1))
    → found_block ≡ slice_get blocks place
unfolding AreOptionalBlocks
place-after [] name content text size place found_block are found only some after =
    absurd (empty-none name content text size are found)
place-after (block ∷ blocks) name content text size zero found_block are found only some after = absurd (some refl)
place-after (block ∷ blocks) name content text size (suc place) found_block are found only some after =
    let first : List ℕ = are.0 in
    let count : size ≡ length first = only block.0 block.1 first are.1.0 are.1.1.1 are.1.1.0 in
    let there : drop size text ≡ are.1.0 = ap (drop size) are.1.1.0 ∙ drop_at first are.1.0 size (sym count) in
    let this : suc place - 1 ≡ place = omega arith in
    after blocks (subst (λ (t : List ℕ). AreOptionalBlocks blocks t) (sym there) are.1.1.2)
    ∙ ap (slice_get blocks) this

-- the first block, and those of the text after it up to some place
pub front-after : (blocks : List (List ℕ × List ℕ)) (text : List ℕ) (size place n count total : ℕ)
    → AreOptionalBlocks blocks text → BeginsWith text size → count ≡ suc place → total ≡ size + n
    → ((others : List (List ℕ × List ℕ)) → AreOptionalBlocks others (drop size text)
    → AreOptionalBlocks (take place others) (take n (drop size text)))
    → AreOptionalBlocks (take count blocks) (take total text)
unfolding AreOptionalBlocks
front-after [] text size place n count total are only counted sum after =
    rw (counted, are, take-nil {A = ℕ} total) refl
front-after (block ∷ blocks) text size place n count total are only counted sum after =
    let first : List ℕ = are.0 in
    let long : size ≡ length first = only block.0 block.1 first are.1.0 are.1.1.1 are.1.1.0 in
    let front : take size text ≡ first = ap (take size) are.1.1.0 ∙ take_at first are.1.0 size (sym long) in
    let back : drop size text ≡ are.1.0 = ap (drop size) are.1.1.0 ∙ drop_at first are.1.0 size (sym long) in
    rw (counted, sum)
    (block-before size n block.0 block.1 text (take place blocks)
    (subst (λ (t : List ℕ). IsOptionalBlock block.0 block.1 t) (sym front) are.1.1.1)
    (after blocks (subst (λ (t : List ℕ). AreOptionalBlocks blocks t) (sym back) are.1.1.2)))

-- of no characters there are none
pub ends-none : (blocks : List (List ℕ × List ℕ)) (text : List ℕ) → AreOptionalBlocks (take 0 blocks) (take 0 text)
unfolding AreOptionalBlocks
ends-none blocks text = refl
