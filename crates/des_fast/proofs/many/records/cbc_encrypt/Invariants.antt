-- The records before the index are chained.
use Rattle.std.proofs.Common.{◌≡◌, ◌-◌, ◌≤◌, ℕ, List, length}
use Rattle.des_fast.specs.Records.{start}
use Rattle.des_fast.specs.RecordStates.{AreChainedBelow}
use Rattle.des_fast.specs.SpreadKeys.{AreSlicesFor}
use Rattle.des_fast.proofs.many.records.cbc_encrypt.Given as goal

abbrev pub invariant-groups : goal.invariant-groups
invariant-groups g l = record {
  within : l.from ≤ length l.initial.vectors;
  starts : l.start ≡ start l.sizes l.from;
  in_vectors : length l.vectors ≡ length l.initial.vectors;
  in_blocks : length l.blocks ≡ length l.initial.blocks;
  chained : (encryption : List ℕ → List ℕ) → AreSlicesFor g.S.Slice.BATCH g.S.Slice.bit l.passes encryption
      → AreChainedBelow encryption l.sizes l.initial.vectors l.initial.blocks l.vectors l.blocks
      l.from;
}

abbrev pub decreases-groups : goal.decreases-groups
decreases-groups g l = length l.initial.vectors - l.from
