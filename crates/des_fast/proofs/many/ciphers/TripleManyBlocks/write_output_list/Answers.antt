use Rattle.std.proofs.Common.{ℕ, List, subst}
use Rattle.des_fast.specs.ChainingValues.{AreOutputs}
use Rattle.des_fast.proofs.many.ciphers.TripleManyBlocks.write_output_list.Goals as goal

pub returns-then-no_tables : goal.returns-then-no_tables
returns-then-no_tables g c =
    subst (λ (f : List ℕ → List ℕ). AreOutputs f c.args.iv.now c.args.plaintext.now c.write_outputs.new.outputs)
    c.encryption_passes-passes.ensures c.write_outputs.ensures

pub returns-else-no_tables : goal.returns-else-no_tables
returns-else-no_tables g c =
    subst (λ (f : List ℕ → List ℕ). AreOutputs f c.args.iv.now c.args.plaintext.now c.write_outputs-else-no_tables.new.outputs)
    c.encryption_passes-passes.ensures c.write_outputs-else-no_tables.ensures
