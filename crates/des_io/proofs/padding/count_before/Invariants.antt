use Rattle.std.proofs.Common.{◌≡◌, ℕ, ◌<◌, take}
use Rattle.des_io.specs.PaddedBytes.{padded}
use Rattle.des_io.proofs.padding.count_before.Given as goal

-- no fewer bytes have the block with their padding
abbrev pub invariant-loop-count : goal.invariant-loop-count
invariant-loop-count l = (k : ℕ) → k < l.count → padded l.padding (take k l.block) ≡ l.block → ⊥
