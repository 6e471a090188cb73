use Rattle.std.proofs.Common.{◌≡◌, take}
use Rattle.std.specs.List.{fold}
use Rattle.des.specs.Cbc.{xor_blocks}
use Rattle.des_payment.proofs.components.sum_of.Given as goal

-- the sum is that of the first component and of those before the index
abbrev pub invariant-loop-component : goal.invariant-loop-component
invariant-loop-component g l = l.sum ≡ fold xor_blocks l.first (take l.component-index l.others)
