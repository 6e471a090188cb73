-- The text of optional blocks: the first of them and the others, and one more.
use Rattle.std.proofs.Common.{◌≡◌, ◌≢◌, ℕ, ◌+◌, List, [], ◌∷◌, ◌++◌, length, take, drop, refl, sym, ap, ap₂, ◌∙◌, append_assoc, arith}
use Rattle.std.proofs.lemmas.List.{append-nil, take-append-drop, take-take, drop-take}
use Rattle.des_key_blocks.specs.OptionalBlocks.{IsOptionalBlock, AreOptionalBlocks}

pub none-empty : (blocks : List (List ℕ × List ℕ)) (text : List ℕ) → length blocks ≡ 0 → AreOptionalBlocks blocks text
    → text ≡ []
unfolding AreOptionalBlocks
none-empty [] text none are = are
none-empty (block ∷ blocks) text none are = absurd (omega arith)

-- the first block of a text and what comes after it
pub record FirstBlock (blocks : List (List ℕ × List ℕ)) (optional : List ℕ) : Type 0 where
  pub name : List ℕ
  pub content : List ℕ
  pub others : List (List ℕ × List ℕ)
  pub first : List ℕ
  pub back : List ℕ
  pub count : length blocks ≡ length others + 1
  pub is : optional ≡ first ++ back
  pub block : IsOptionalBlock name content first
  pub are : AreOptionalBlocks others back

pub first-of : (blocks : List (List ℕ × List ℕ)) (optional : List ℕ) → length blocks ≢ 0
    → AreOptionalBlocks blocks optional → FirstBlock blocks optional
unfolding AreOptionalBlocks
first-of [] optional some are = absurd (some refl)
first-of (block ∷ blocks) optional some are = record {
  name = block.0;
  content = block.1;
  others = blocks;
  first = are.0;
  back = are.1.0;
  count = omega arith;
  is = are.1.1.0;
  block = are.1.1.1;
  are = are.1.1.2;
}

-- a front of a text in two parts
pub take-both : (m n : ℕ) (text : List ℕ) → take (m + n) text ≡ take m text ++ take n (drop m text)
take-both m n text =
    sym (take-append-drop m (take (m + n) text))
    ∙ ap₂ (λ (front back : List ℕ). front ++ back) (take-take m (m + n) text (omega arith)) (drop-take m n text)

-- a block before others
pub block-before : (m n : ℕ) (name content text : List ℕ) (blocks : List (List ℕ × List ℕ))
    → IsOptionalBlock name content (take m text) → AreOptionalBlocks blocks (take n (drop m text))
    → AreOptionalBlocks ((name, content) ∷ blocks) (take (m + n) text)
unfolding AreOptionalBlocks
block-before m n name content text blocks block are =
    (take m text, (take n (drop m text), (take-both m n text, block, are)))

-- one block more
pub are-more : (blocks : List (List ℕ × List ℕ)) (block : List ℕ × List ℕ) (front last : List ℕ)
    → AreOptionalBlocks blocks front → IsOptionalBlock block.0 block.1 last
    → AreOptionalBlocks (blocks ++ block ∷ []) (front ++ last)
unfolding AreOptionalBlocks
are-more [] block front last are is =
    (last, ([], (ap (λ (none : List ℕ). none ++ last) are ∙ sym (append-nil last), is, refl)))
are-more (before ∷ blocks) block front last are is = (
  are.0,
  (
    are.1.0 ++ last,
    (
      ap (λ (text : List ℕ). text ++ last) are.1.1.0 ∙ append_assoc are.0 are.1.0 last,
      are.1.1.1,
      are-more blocks block are.1.0 last are.1.1.2 is,
    ),
  ),
)
