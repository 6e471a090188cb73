-- In each direction three passes.
use Rattle.std.proofs.Common.{◌∙◌}
use Rattle.des_fast.proofs.many.spread.TripleSpreadOnce.spread_keys.Goals as goal

pub returns : goal.returns
returns g c = record {
  encryption = λ b within. c.spread_three.ensures b within ∙ c.encryption_passes.ensures;
  decryption = λ b within. c.spread_three-2.ensures b within ∙ c.decryption_passes.ensures;
}
