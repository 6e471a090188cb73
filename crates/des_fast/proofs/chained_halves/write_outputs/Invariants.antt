-- The outputs before the index are written, and the halves are those of what the register holds.
use Rattle.std.proofs.Common.{◌≡◌, ℕ, ◌<◌, [], get_or}
use Rattle.des_fast.specs.ChainingValues.{register_before}
use Rattle.des_fast.specs.SideBySide.{AreExpansions, AreHalvesOf}
use Rattle.des_fast.proofs.chained_halves.write_outputs.Given as goal

abbrev pub invariant-loop-j : goal.invariant-loop-j
invariant-loop-j g l = record {
  left : AreExpansions g.W.One.Groups.BLOCKS g.W.One.Groups.word l.halves.0;
  right : AreExpansions g.W.One.Groups.BLOCKS g.W.One.Groups.word l.halves.1;
  halves : AreHalvesOf g.W.One.Groups.word (register_before l.iv l.plaintext l.outputs l.j) l.halves;
  written : (n : ℕ) → n < l.j → get_or l.outputs n []
      ≡ g.A.BlockTransform.output l.passes (register_before l.iv l.plaintext l.outputs n);
}
