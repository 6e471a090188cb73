use Rattle.std.proofs.Common.{ℕ, List, ◌++◌, length, ap, ap₂, ◌∙◌, arith}
use Rattle.des_key_blocks.proofs.KeyDataBytes.{take-three}
use Rattle.des_key_blocks.proofs.key_blocks.data_of.Goals as goal

pub returns : goal.returns
returns c =
    let size = c.copy_from_slice.ensures.after ∙ c.to_be_bytes.ensures in
    let key = c.copy_from_slice-2.ensures.after in
    let padding = c.copy_from_slice-3.ensures.after in
    take-three c.copy_from_slice.new.self c.copy_from_slice-2.new.self c.copy_from_slice-3.new.self _ _
    (omega (arith, ap length size, ap length key, ap length padding))
    ∙ ap₂ (λ (front back : List ℕ). front ++ back) size (ap₂ (λ (front back : List ℕ). front ++ back) key padding)
