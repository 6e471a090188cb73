use Rattle.std.proofs.Common.{ap, ◌∙◌}
use Rattle.des_fast.proofs.many.ciphers.TripleManyBlocks.encrypt_one.Goals as goal

pub returns : goal.returns
returns g c = c.process_block.ensures ∙ ap (λ f. f c.args.block.now) c.encryption_passes.ensures
