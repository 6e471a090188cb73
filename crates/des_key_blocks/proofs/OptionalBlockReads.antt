-- Optional blocks that are read one after another from a text.
use Rattle.std.proofs.Common.{◌≡◌, ◌≢◌, ℕ, ◌+◌, ◌<◌, List, [], ◌∷◌, ◌++◌, length, take, drop, set, refl, sym, ap, ◌∙◌, subst, arith}
use Rattle.std.proofs.lemmas.List.{length-append, length-drop, take_more_set, map_push, drop_at, drop-drop, drop-set-lt}
use Rattle.des_key_blocks.specs.OptionalBlocks.{IsOptionalBlock, AreOptionalBlocks}
use Rattle.des_key_blocks.specs.declared.optional_blocks.OptionalBlock.{OptionalBlock}
use Rattle.des_key_blocks.proofs.OptionalBlockLists.{FirstBlock, none-empty, are-more, take-both}
use Rattle.des_key_blocks.proofs.OptionalBlockSizes.{pair_of, pairs_of}
use Rattle.des_key_blocks.proofs.OptionalBlockTexts.{block-least}

-- one block more is read
pub read-step : (blocks : List OptionalBlock) (count : ℕ) (block : OptionalBlock) (at size : ℕ) (text : List ℕ)
    → count < length blocks → AreOptionalBlocks (pairs_of (take count blocks)) (take at text)
    → IsOptionalBlock block.name block.content.now (take size (drop at text))
    → AreOptionalBlocks (pairs_of (take (count + 1) (set blocks count block))) (take (at + size) text)
read-step blocks count block at size text within are is =
    let before : List (List ℕ × List ℕ) = pairs_of (take count blocks) in
    let pairs : pairs_of (take (count + 1) (set blocks count block)) ≡ before ++ pair_of block ∷ [] =
    ap pairs_of (take_more_set blocks count block within) ∙ map_push pair_of (take count blocks) block in
    let more = are-more before (pair_of block) (take at text) (take size (drop at text)) are is in
    subst (λ (read : List (List ℕ × List ℕ)). AreOptionalBlocks read (take (at + size) text)) (sym pairs)
    (subst (λ (front : List ℕ). AreOptionalBlocks (before ++ pair_of block ∷ []) front)
    (sym (take-both at size text)) more)

-- and those after it stay
pub rest-step : (blocks before : List OptionalBlock) (count : ℕ) (block : OptionalBlock)
    → drop count blocks ≡ drop count before → drop (count + 1) (set blocks count block) ≡ drop (count + 1) before
rest-step blocks before count block same =
    drop-set-lt (count + 1) blocks count block (omega arith) ∙ sym (drop-drop 1 count blocks) ∙ ap (drop 1) same
    ∙ drop-drop 1 count before

-- what is left of the blocks of a text after some
pub record LeftBlocks (read : List (List ℕ × List ℕ)) (count : ℕ) (rest : List ℕ) : Type 0 where
  pub others : List (List ℕ × List ℕ)
  pub are : AreOptionalBlocks others rest
  pub all : length read ≡ count + length others

-- of a text with more characters that is some block
pub left-some : (read : List (List ℕ × List ℕ)) (count at : ℕ) (text : List ℕ) → at < length text
    → (left : LeftBlocks read count (drop at text)) → length left.others ≢ 0
left-some read count at text more left = λ none.
    absurd (omega (arith, ap length (none-empty left.others (drop at text) none left.are), length-drop at text))

-- and of one with none, none
pub left-none : (blocks : List (List ℕ × List ℕ)) (rest : List ℕ) → length rest ≡ 0 → AreOptionalBlocks blocks rest
    → length blocks ≡ 0
unfolding AreOptionalBlocks
left-none [] rest none are = refl
left-none (block ∷ blocks) rest none are =
    absurd (omega (
      arith,
      ap length are.1.1.0,
      length-append are.0 are.1.0,
      block-least block.0 block.1 are.0 are.1.1.1,
    ))

-- what is left after the first of them
pub left-after : (read : List (List ℕ × List ℕ)) (count at size : ℕ) (text : List ℕ)
    → (left : LeftBlocks read count (drop at text)) → (f : FirstBlock left.others (drop at text))
    → size ≡ length f.first → LeftBlocks read (count + 1) (drop (at + size) text)
left-after read count at size text left f is = record {
  others = f.others;
  are = let back : drop (at + size) text ≡ f.back =
      sym (drop-drop size at text) ∙ ap (drop size) f.is ∙ drop_at f.first f.back size (sym is) in
      subst (λ (rest : List ℕ). AreOptionalBlocks f.others rest) (sym back) f.are;
  all = omega (arith, left.all, f.count);
}
