use Rattle.std.proofs.Common.{ℕ, List, [], ◌++◌, ap₂, ◌∙◌}
use Rattle.des_key_blocks.proofs.KeyDataBytes.{in_blocks}
use Rattle.des_key_blocks.proofs.key_blocks.blocks_of.Goals as goal

pub returns : goal.returns
returns c =
    ap₂ (λ (front back : List ℕ). front ++ back) c.block_from.ensures
    (ap₂ (λ (front back : List ℕ). front ++ back) c.block_from-2.ensures
    (ap₂ (λ (front back : List ℕ). front ++ (back ++ [])) c.block_from-3.ensures c.block_from-4.ensures))
    ∙ in_blocks c.args.bytes.now c.told-bytes
