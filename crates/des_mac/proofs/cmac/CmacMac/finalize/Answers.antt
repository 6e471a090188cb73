use Rattle.std.proofs.Common.{◌≡◌, length, arith, sym, ap, ◌∙◌, length-append}
use Rattle.des_mac.specs.Padding.{last_count, AreWholeBlocks, one_bit_after, padded}
use Rattle.des_mac.specs.CbcMac.{zero_block, cbc_mac}
use Rattle.des_mac.specs.Laws.Paddings.{AreWholeBlocks-one_bit_after}
use Rattle.des_mac.proofs.MaskedTags.{masked_message-whole, masked_message-part, AreWholeBlocks-full}
use Rattle.des_mac.proofs.cmac.CmacMac.finalize.Goals as goal
use Rattle.des_mac.proofs.cmac.CmacMac.finalize.Goals.{then-count-lt8, else-count-lt8}

-- the last block is padded and has the second subkey, or is whole and has the first
pub returns : goal.returns
returns g c = λ key m holds.
    let e = g.C.KeyedCipher.encryption key in
    let last : last_count (length m) ≡ c.args.self.chaining.count = omega (arith, holds.absorbed.counted) in
    let first = c.first_subkey-subkey.ensures key holds.is_key holds.made in
    elim c.if-count-lt8.branch [
      | then-count-lt8 w ↦
          let state = rw (w.padding.ensures (length m) last) at (w.update.ensures.holds key m holds) in
          let whole : AreWholeBlocks (length (padded one_bit_after m)) =
          rw (length-append m (one_bit_after (length m))) (AreWholeBlocks-one_bit_after (length m)) in
          rw (w.subkey-is, w.doubled-subkey.ensures, first)
          at (c.close_masked.ensures key (padded one_bit_after m) (rw w.self-is state) whole)
          ∙ ap (cbc_mac e) (sym (masked_message-part (e zero_block) m (omega arith)))
      | else-count-lt8 w ↦
          let full : last_count (length m) ≡ 8 = omega arith in
          rw (w.subkey-is, first) at (c.close_masked.ensures key m (rw w.self-is holds) (AreWholeBlocks-full m full))
          ∙ ap (cbc_mac e) (sym (masked_message-whole (e zero_block) m full))
    ]
