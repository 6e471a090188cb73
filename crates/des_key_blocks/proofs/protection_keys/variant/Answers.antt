use Rattle.std.proofs.Common.{ℕ, List, get_or, bit_xor, replicate, sym, ap, ◌∙◌, arith}
use Rattle.std.proofs.lemmas.List.{length-replicate, get_or-replicate}
use Rattle.des.proofs.XoredBlocks.{xor_blocks-from_bytes}
use Rattle.des_key_blocks.proofs.protection_keys.variant.Goals as goal

-- the loop has xored each byte
pub returns : goal.returns
returns c =
    let key : List ℕ = c.args.key.now in
    let byte : ℕ = c.args.byte in
    xor_blocks-from_bytes c.loop-part.part-items key (replicate 24 byte) (omega (arith, c.loop-part.invariant.count))
    (omega (arith, length-replicate 24 byte))
    (λ k within. c.loop-part.invariant.xored k (omega (arith, c.loop-part.invariant.count))
    ∙ ap (bit_xor (get_or key k 0)) (sym (get_or-replicate 24 k byte 0 (omega arith))))
