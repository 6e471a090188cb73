use Rattle.std.proofs.Common.{ℕ, List, ◌++◌, sym, ap₂, ◌∙◌, inl, inr, arith}
use Rattle.des_key_blocks.proofs.KeyParts.{three_parts-front}
use Rattle.des_key_blocks.proofs.protection_keys.three_parts.Goals as goal

-- the key, and its front after it
pub returns : goal.returns
returns c =
    ap₂ (λ (front back : List ℕ). front ++ back) c.copy_from_slice.ensures.after c.copy_from_slice-2.ensures.after
    ∙ sym (three_parts-front c.args.key.now (elim c.requires [ inl two ↦ omega arith | inr three ↦ omega arith ]))
