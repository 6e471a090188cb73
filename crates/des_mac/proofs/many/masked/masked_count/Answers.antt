use Rattle.std.proofs.Common.{length, sym, ◌∙◌, arith}
use Rattle.des_mac.proofs.MaskedMessages.{masked_message-count}
use Rattle.des_mac.proofs.many.masked.masked_count.Goals as goal

pub returns : goal.returns
returns c zeros =
    let m = c.args.message.now in
    c.joined_count.ensures
    ∙ sym (masked_message-count zeros m c.mask_padding.result.now
    (λ full. c.mask_padding.ensures.whole (c.count_in_last.ensures ∙ full))
    (λ part. c.mask_padding.ensures.part (omega (arith, c.count_in_last.ensures, part)) (length m)
    (sym c.count_in_last.ensures)))
