-- The records of the group are chained as far as i steps take them.
use Rattle.std.proofs.Common.{◌≡◌, ℕ, List, length}
use Rattle.des_fast.specs.RecordStates.{AreChainedBelow}
use Rattle.des_fast.specs.SpreadKeys.{AreSlicesFor}
use Rattle.des_fast.proofs.ChainedRecords.{AreInStep}
use Rattle.des_fast.proofs.many.records.cbc_encrypt_group.Given as goal

abbrev pub invariant-steps : goal.invariant-steps
invariant-steps g l = record {
  in_vectors : length l.vectors ≡ length l.initial.vectors;
  in_blocks : length l.blocks ≡ length l.initial.blocks;
  chained : (encryption : List ℕ → List ℕ) (first p : List (List ℕ))
      → AreSlicesFor g.S.Slice.BATCH g.S.Slice.bit l.passes encryption
      → AreChainedBelow encryption l.sizes first p l.initial.vectors l.initial.blocks l.group.from
      → AreInStep encryption l.sizes first p l.vectors l.blocks l.group.from l.group.count l.i;
}
