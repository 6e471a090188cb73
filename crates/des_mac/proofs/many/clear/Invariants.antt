-- The blocks below the index are zeros.
use Rattle.std.proofs.Common.{◌≡◌, ℕ, ◌<◌, [], get_or}
use Rattle.des_mac.specs.CbcMac.{zero_block}
use Rattle.des_mac.proofs.many.clear.Given as goal

abbrev pub invariant-loop-block : goal.invariant-loop-block
invariant-loop-block l = (k : ℕ) → k < l.block-index → get_or l.blocks k [] ≡ zero_block
