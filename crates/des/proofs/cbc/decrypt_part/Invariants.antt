-- The blocks before the index are out of the chain, those from it on are as they were, and the local is the one before
-- them as it was.
use Rattle.std.proofs.Common.{◌≡◌, ℕ, ◌+◌, ◌≤◌, [], get_or}
use Rattle.des.specs.Cbc.{xor_blocks, block_at, block_before}
use Rattle.des.proofs.cbc.decrypt_part.Given as goal

abbrev pub invariant-loop-k : goal.invariant-loop-k
invariant-loop-k g l = record {
  cbc_decrypted : (n : ℕ) → 1 ≤ n → n ≤ l.k
      → block_at l.blocks n ≡ xor_blocks (block_at l.answers n) (block_before l.iv l.initial.blocks n);
  rest : (k : ℕ) → l.k ≤ k → get_or l.blocks k [] ≡ get_or l.initial.blocks k [];
  last : l.before ≡ block_before l.iv l.initial.blocks (l.k + 1);
}
