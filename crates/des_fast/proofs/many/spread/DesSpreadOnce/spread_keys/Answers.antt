-- In each direction one pass.
use Rattle.std.proofs.Common.{◌∙◌}
use Rattle.des_fast.proofs.many.spread.DesSpreadOnce.spread_keys.Goals as goal

pub returns : goal.returns
returns g c = record {
  encryption = λ b within. c.spread_one.ensures.spread b within ∙ c.pass.ensures;
  decryption = λ b within. c.spread_one-2.ensures.spread b within ∙ c.pass-2.ensures;
}
