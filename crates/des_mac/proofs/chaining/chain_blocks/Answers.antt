use Rattle.std.proofs.Common.{◌≡◌, ◌+◌, sym, ap, ◌∙◌, arith}
use Rattle.des_mac.specs.CbcMac.{chain_after}
use Rattle.des_mac.proofs.ChainedBytes.{chain_after-next}
use Rattle.des_mac.proofs.chaining.chain_blocks.Goals as goal

pub loop-block-preserved : goal.loop-block-preserved
loop-block-preserved g c = λ key is_key made m n blocks begun.
    let e = g.C.KeyedCipher.encryption key in
    let i = c.loop-block.block-index in
    let before = c.loop-block.invariant key is_key made m n blocks begun in
    let next : n + i + 1 ≡ n + (i + 1) = omega arith in
    rw (blocks i (omega arith), before) at (c.chain_block.ensures key is_key made)
    ∙ sym (chain_after-next e m (n + i))
    ∙ ap (chain_after e m) next
