-- The blocks before the index are chained, those from it on are as they were, and the halves are of the block before it.
use Rattle.std.proofs.Common.{◌≡◌, ℕ, ◌+◌, ◌≤◌, [], get_or}
use Rattle.des.specs.Cbc.{xor_blocks, block_at, block_before}
use Rattle.des_fast.specs.SideBySide.{AreExpansions, AreHalvesOf}
use Rattle.des_fast.proofs.chained_halves.cbc_encrypt.Given as goal

abbrev pub invariant-loop-block : goal.invariant-loop-block
invariant-loop-block g l = record {
  left : AreExpansions g.W.One.Groups.BLOCKS g.W.One.Groups.word l.halves.0;
  right : AreExpansions g.W.One.Groups.BLOCKS g.W.One.Groups.word l.halves.1;
  halves : AreHalvesOf g.W.One.Groups.word (block_before l.iv l.blocks (l.block-index + 1)) l.halves;
  chained : (n : ℕ) → 1 ≤ n → n ≤ l.block-index → block_at l.blocks n
      ≡ g.A.BlockTransform.output l.passes (xor_blocks (block_at l.initial.blocks n) (block_before l.iv l.blocks n));
  rest : (k : ℕ) → l.block-index ≤ k → get_or l.blocks k [] ≡ get_or l.initial.blocks k [];
}
