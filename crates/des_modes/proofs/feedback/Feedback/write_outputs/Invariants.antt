-- The outputs before the index are written.
use Rattle.std.proofs.Common.{◌≡◌, ℕ, ◌<◌, [], get_or}
use Rattle.des_fast.specs.ChainingValues.{register_before}
use Rattle.des_modes.proofs.feedback.Feedback.write_outputs.Given as goal

abbrev pub invariant-loop-j : goal.invariant-loop-j
invariant-loop-j g l = record {
  register : l.register ≡ register_before l.iv l.plaintext l.outputs l.j;
  written : (n : ℕ) → n < l.j → get_or l.outputs n []
      ≡ g.Self.BlockCipherEncrypt.encrypted l.self (register_before l.iv l.plaintext l.outputs n);
}
