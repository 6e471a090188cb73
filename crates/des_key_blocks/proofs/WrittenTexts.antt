-- The text of optional blocks as they are written: one block more, and the block that fills them.
use Rattle.std.proofs.Common.{◌≡◌, ◌≢◌, ℕ, ◌+◌, ◌/◌, ◌%◌, ◌<◌, ◌≤◌, false, List, [], ◌∷◌, ◌++◌, length, take, get_or, codes, sym, ap, ap₂, ◌∙◌, arith}
use Rattle.std.specs.Prelude.{nat_lt, if◌then◌else◌}
use Rattle.std.proofs.lemmas.Bool.Decides.{nat_tests}
use Rattle.std.proofs.lemmas.Grind.{flat_map-append}
use Rattle.std.proofs.lemmas.List.{append-nil}
use Rattle.std.proofs.lemmas.Slice.{take-put_mid}
use borrow.Rule.Slice.PartMut.{put_mid}
use Rattle.des_key_blocks.specs.Hex.{hex_number}
use Rattle.des_key_blocks.specs.OptionalBlocks.{short_block, long_block, block_text, blocks_text, size_of, size_of_all, filled}
use Rattle.des_key_blocks.specs.declared.optional_blocks.OptionalBlock.{OptionalBlock}
use Rattle.des_key_blocks.proofs.OptionalBlockSizes.{pair_of, pairs_of, more-pairs, zeros_for, filling-one, size_of-long}
use Rattle.des_key_blocks.proofs.OptionalBlockTexts.{long-written}
use Rattle.des_key_blocks.proofs.OptionalBlockWrites.{put-end}

-- ---- one block

long-size : (content : List ℕ) → 256 ≤ size_of content → 256 ≤ length content + 4
long-size content long = grind (arith, nat_tests)

is-long : (content : List ℕ) → 256 ≤ length content + 4 → nat_lt (length content + 4) 256 ≡ false
is-long content long = grind (arith, nat_tests)

text-long : (name content : List ℕ) → 256 ≤ length content + 4 → block_text (name, content) ≡ long_block 2 name content
text-long name content long =
    ap (λ b. if b then short_block name content else long_block 2 name content) (is-long content long)

pub long-pieces-text : (size : ℕ) (name content first zeros unit high low last : List ℕ) → size ≡ size_of content
    → 256 ≤ size → first ≡ name → zeros ≡ codes "00" → unit ≡ codes "02"
    → high ≡ hex_number 2 (size / 256) → low ≡ hex_number 2 size → last ≡ content
    → first ++ (zeros ++ (unit ++ (high ++ (low ++ last)))) ≡ block_text (name, content)
long-pieces-text size name content first zeros unit high low last is_size long named zero bytes above below same =
    let count : size ≡ length content + 10 = is_size ∙ size_of-long content (omega arith) in
    let least : 256 ≤ length content + 4 = long-size content (omega arith) in
    let e = long-written size name content count in
    let t = text-long name content least in
    cc

-- ---- blocks

blocks_text-more : (blocks : List (List ℕ × List ℕ)) (block : List ℕ × List ℕ)
    → blocks_text (blocks ++ block ∷ []) ≡ blocks_text blocks ++ block_text block
blocks_text-more blocks block =
    flat_map-append block_text blocks (block ∷ [])
    ∙ ap (λ (last : List ℕ). blocks_text blocks ++ last) (append-nil (block_text block))

-- one more is written
pub text-step : (blocks : List OptionalBlock) (i : ℕ) (d : OptionalBlock) (at n size : ℕ) (text last : List ℕ)
    → i < length blocks → at ≤ length text → length last ≡ size
    → take at text ≡ blocks_text (take i (pairs_of blocks)) → last ≡ block_text (pair_of (get_or blocks i d))
    → take (at + size) (put_mid at n text last) ≡ blocks_text (take (i + 1) (pairs_of blocks))
text-step blocks i d at n size text last within there count so_far is =
    take-put_mid at n text last (at + size) (omega arith) there
    ∙ ap₂ (λ (front back : List ℕ). front ++ back) so_far is
    ∙ sym (blocks_text-more (take i (pairs_of blocks)) (pair_of (get_or blocks i d)))
    ∙ ap blocks_text (sym (more-pairs blocks i d within))

-- the last is written, if one is needed
pub text-filled : (blocks : List (List ℕ × List ℕ)) (at n : ℕ) (text content last : List ℕ) → at ≡ size_of_all blocks
    → at % 8 ≢ 0 → at + n ≡ length text → length last ≡ n → content ≡ zeros_for at
    → take at text ≡ blocks_text blocks → last ≡ block_text (codes "PB", content)
    → put_mid at n text last ≡ blocks_text (filled blocks)
text-filled blocks at n text content last is_at part all count zeros so_far is =
    let size : ℕ = size_of_all blocks in
    let same : content ≡ zeros_for size = zeros ∙ ap zeros_for is_at in
    let needed = filling-one size (λ whole. part (omega arith)) in
    put-end at n text last all count
    ∙ ap₂ (λ (front back : List ℕ). front ++ back) so_far
    (is ∙ ap (λ (c : List ℕ). block_text (codes "PB", c)) same)
    ∙ sym (blocks_text-more blocks (codes "PB", zeros_for size))
    ∙ ap (λ (fill : List (List ℕ × List ℕ)). blocks_text (blocks ++ fill)) (sym needed)
