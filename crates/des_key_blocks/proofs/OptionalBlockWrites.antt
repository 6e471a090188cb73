-- Optional blocks that are written one after another into a text.
use Rattle.std.proofs.Common.{◌≡◌, ◌≢◌, ℕ, ◌+◌, ◌-◌, ◌%◌, ◌<◌, ◌≤◌, List, [], ◌∷◌, ◌++◌, length, take, drop, replicate, get_or, codes, sym, ap, ◌∙◌, subst, arith}
use Rattle.std.proofs.lemmas.List.{length-append, length-take, length-drop, length-replicate, take_all, take-replicate}
use Rattle.std.proofs.lemmas.Slice.{take-put_mid}
use borrow.Rule.Slice.PartMut.{put_mid}
use Rattle.des_key_blocks.specs.OptionalBlocks.{IsOptionalBlock, AreOptionalBlocks, size_of, size_of_all, filled}
use Rattle.des_key_blocks.specs.declared.optional_blocks.OptionalBlock.{OptionalBlock}
use Rattle.des_key_blocks.proofs.OptionalBlockLists.{are-more}
use Rattle.des_key_blocks.proofs.OptionalBlockSizes.{pairs_of, more-pairs, zeros_for, filling-one, size_of-short, size-filled}

-- a part that is written leaves the length
pub length-put : (at n : ℕ) (text last : List ℕ) → at + n ≤ length text → length last ≡ n
    → length (put_mid at n text last) ≡ length text
length-put at n text last within same =
    omega (
      arith,
      length-append (take at text) (last ++ drop n (drop at text)),
      length-append last (drop n (drop at text)),
      length-take at text,
      length-drop n (drop at text),
      length-drop at text,
    )

-- a part that is written up to the end
pub put-end : (at n : ℕ) (text last : List ℕ) → at + n ≡ length text → length last ≡ n
    → put_mid at n text last ≡ take at text ++ last
put-end at n text last all same =
    sym (take_all (length text) (put_mid at n text last) (omega (arith, length-put at n text last (omega arith) same)))
    ∙ take-put_mid at n text last (length text) (omega arith) (omega arith)

-- one block more is written
pub are-step : (blocks : List OptionalBlock) (i : ℕ) (d : OptionalBlock) (at n size : ℕ) (text last : List ℕ)
    → i < length blocks → at ≤ length text → length last ≡ size
    → AreOptionalBlocks (take i (pairs_of blocks)) (take at text)
    → IsOptionalBlock (get_or blocks i d).name (get_or blocks i d).content.now last
    → AreOptionalBlocks (take (i + 1) (pairs_of blocks)) (take (at + size) (put_mid at n text last))
are-step blocks i d at n size text last within there count are is =
    let e = take-put_mid at n text last (at + size) (omega arith) there in
    let block : OptionalBlock = get_or blocks i d in
    let more = are-more (take i (pairs_of blocks)) (block.name, block.content.now) (take at text) last are is in
    let both = subst (λ (pairs : List (List ℕ × List ℕ)). AreOptionalBlocks pairs (take at text ++ last))
    (sym (more-pairs blocks i d within)) more in
    subst (λ (front : List ℕ). AreOptionalBlocks (take (i + 1) (pairs_of blocks)) front) (sym e) both

-- the last block is written, if one is needed
pub are-filled : (blocks : List (List ℕ × List ℕ)) (at n : ℕ) (text content last : List ℕ) → at ≡ size_of_all blocks
    → at % 8 ≢ 0 → at + n ≡ length text → length last ≡ n → content ≡ zeros_for at
    → AreOptionalBlocks blocks (take at text) → IsOptionalBlock (codes "PB") content last
    → AreOptionalBlocks (filled blocks) (put_mid at n text last)
are-filled blocks at n text content last is_at part all count zeros are is =
    let size : ℕ = size_of_all blocks in
    let same : content ≡ zeros_for size = zeros ∙ ap zeros_for is_at in
    let needed = filling-one size (λ whole. part (omega arith)) in
    let block = subst (λ (c : List ℕ). IsOptionalBlock (codes "PB") c last) same is in
    let more = are-more blocks (codes "PB", zeros_for size) (take at text) last are block in
    let both = subst (λ (fill : List (List ℕ × List ℕ)). AreOptionalBlocks (blocks ++ fill) (take at text ++ last))
    (sym needed) more in
    subst (λ (t : List ℕ). AreOptionalBlocks (filled blocks) t) (sym (put-end at n text last all count)) both

-- the content of the last block
pub eight-zeros : (at n : ℕ) → n ≡ (12 - at % 8) % 8
    → take n (48 ∷ 48 ∷ 48 ∷ 48 ∷ 48 ∷ 48 ∷ 48 ∷ 48 ∷ []) ≡ zeros_for at
eight-zeros at n is = take-replicate n 8 48 (omega arith) ∙ ap (λ (k : ℕ). replicate k 48) is

-- it fits
pub last-fits : (blocks : List (List ℕ × List ℕ)) (at n : ℕ) (text : List ℕ) → at ≡ size_of_all blocks → at % 8 ≢ 0
    → n ≡ (12 - at % 8) % 8 → length text ≡ size_of_all (filled blocks)
    → length text ≡ at + 4 + n
last-fits blocks at n text is_at part is_n count =
    let size : ℕ = size_of_all blocks in
    let same : at % 8 ≡ size % 8 = ap (λ (k : ℕ). k % 8) is_at in
    omega (arith, size-filled blocks (λ whole. part (omega arith)))

pub last-size : (at n : ℕ) (text content : List ℕ) → n ≡ (12 - at % 8) % 8 → length text ≡ at + 4 + n
    → content ≡ zeros_for at → length (take (length text - at) (drop at text)) ≡ size_of content
last-size at n text content is_n count zeros =
    let long : length content ≡ n =
    ap length zeros ∙ length-replicate ((12 - at % 8) % 8) 48 ∙ sym is_n in
    let size = size_of-short content (omega arith) in
    omega (arith, size, length-take (length text - at) (drop at text), length-drop at text)
