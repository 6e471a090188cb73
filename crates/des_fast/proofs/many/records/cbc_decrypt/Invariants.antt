-- The blocks before the index are out of their chains.
use Rattle.std.proofs.Common.{◌≡◌, ◌-◌, ◌≤◌, ℕ, List, length}
use Rattle.des_fast.specs.Records.{start}
use Rattle.des_fast.specs.RecordStates.{AreCbcDecryptedBelow}
use Rattle.des_fast.specs.SpreadKeys.{AreSlicesFor}
use Rattle.des_fast.proofs.many.records.cbc_decrypt.Given as goal

abbrev pub invariant-parts : goal.invariant-parts
invariant-parts g l = record {
  within : l.from ≤ length l.initial.blocks;
  starts : l.current.start ≡ start l.sizes l.current.number;
  before : l.current.start ≤ l.from;
  in_vectors : length l.vectors ≡ length l.initial.vectors;
  in_blocks : length l.blocks ≡ length l.initial.blocks;
  cbc_decrypted : (decryption : List ℕ → List ℕ) → AreSlicesFor g.S.Slice.BATCH g.S.Slice.bit l.passes decryption
      → AreCbcDecryptedBelow decryption l.sizes l.initial.vectors l.initial.blocks l.vectors l.blocks
      l.from;
}

abbrev pub decreases-parts : goal.decreases-parts
decreases-parts g l = length l.initial.blocks - l.from
