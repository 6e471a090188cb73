use Rattle.std.proofs.Common.{◌≡◌, ℕ, ◌+◌, ◌/◌, ◌<◌, List, [], length, sym, ap, ◌∙◌, arith}
use Rattle.des.specs.Cbc.{xor_blocks}
use Rattle.des_mac.specs.Padding.{last_count, one_bit_after}
use Rattle.des_mac.specs.Cmac.{masked_message}
use Rattle.des_mac.proofs.MaskedMessages.{masked_message-count, masked_message-last, masked_message-before}
use Rattle.des_mac.proofs.many.masked.masked_block.Goals as goal

pub joined_block-block-requires : goal.joined_block-block-requires
joined_block-block-requires c =
    let m : List ℕ = c.args.message.now in
    let padding : List ℕ = c.mask_padding-padding.result.now in
    let count : length (masked_message c.args.zeros.now m) / 8 ≡ (length m + length padding) / 8 =
    masked_message-count c.args.zeros.now m padding
    (λ full. c.mask_padding-padding.ensures.whole (c.count_in_last-count.ensures ∙ full))
    (λ part. c.mask_padding-padding.ensures.part (omega (arith, c.count_in_last-count.ensures, part)) (length m)
    (sym c.count_in_last-count.ensures)) in
    omega (arith, c.requires, count)

-- the last block is xored with the subkey
pub returns-then-index-joined_count : goal.returns-then-index-joined_count
returns-then-index-joined_count c =
    let m : List ℕ = c.args.message.now in
    let padding : List ℕ = c.mask_padding-padding.result.now in
    c.xor.ensures
    ∙ ap (λ (block : List ℕ). xor_blocks block c.subkey.result) c.joined_block-block.ensures
    ∙ masked_message-last c.args.zeros.now m padding
    (λ full. c.mask_padding-padding.ensures.whole (c.count_in_last-count.ensures ∙ full))
    (λ part. c.mask_padding-padding.ensures.part (omega (arith, c.count_in_last-count.ensures, part)) (length m)
    (sym c.count_in_last-count.ensures))
    c.subkey.result
    (λ full. c.subkey.ensures.whole (c.count_in_last-count.ensures ∙ full))
    (λ part. c.subkey.ensures.part (omega (arith, c.count_in_last-count.ensures, part)))
    c.args.index (omega (arith, c.if-index-joined_count.true, c.joined_count.ensures))

pub returns-else-index-joined_count : goal.returns-else-index-joined_count
returns-else-index-joined_count c =
    let m : List ℕ = c.args.message.now in
    let padding : List ℕ = c.mask_padding-padding.result.now in
    let whole : last_count (length m) ≡ 8 → padding ≡ [] =
    λ full. c.mask_padding-padding.ensures.whole (c.count_in_last-count.ensures ∙ full) in
    let part : last_count (length m) < 8 → padding ≡ one_bit_after (length m) =
    λ below. c.mask_padding-padding.ensures.part (omega (arith, c.count_in_last-count.ensures, below)) (length m)
    (sym c.count_in_last-count.ensures) in
    let count : length (masked_message c.args.zeros.now m) / 8 ≡ (length m + length padding) / 8 =
    masked_message-count c.args.zeros.now m padding whole part in
    c.joined_block-block.ensures
    ∙ masked_message-before c.args.zeros.now m padding whole part c.args.index
    (omega (arith, c.requires, count, c.if-index-joined_count.false, c.joined_count.ensures))
