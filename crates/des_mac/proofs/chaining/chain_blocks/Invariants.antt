use Rattle.std.proofs.Common.{◌≡◌, ◌<◌, ◌+◌, ℕ, List, [], length, slice_index_or}
use Rattle.des.specs.Blocks.{IsKey}
use Rattle.des_mac.specs.CbcMac.{block_after, chain_after}
use Rattle.des_mac.proofs.chaining.chain_blocks.Given as goal

-- the chain has gone on with the blocks before the index
abbrev pub invariant-loop-block : goal.invariant-loop-block
invariant-loop-block g l =
    (key : List ℕ) → IsKey g.C.KeySizeUser.KEY_SIZE key → g.C.KeyInit.is_made_from l.cipher key → (m : List ℕ) (n : ℕ)
    → ((i : ℕ) → i < length l.blocks → slice_index_or l.blocks i [] ≡ block_after m (n + i))
    → l.fn.chain ≡ chain_after (g.C.KeyedCipher.encryption key) m n
    → l.chain ≡ chain_after (g.C.KeyedCipher.encryption key) m (n + l.block-index)
