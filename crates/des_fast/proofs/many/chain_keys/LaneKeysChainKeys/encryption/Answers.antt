-- All lanes answer alike.
use Rattle.std.proofs.Common.{◌+◌, ap, sym, ◌∙◌, arith}
use Rattle.des_fast.specs.EachKey.{lane_output}
use Rattle.des_fast.proofs.many.chain_keys.LaneKeysChainKeys.encryption.Goals as goal

pub returns : goal.returns
returns g c answer are k below =
    sym (are (c.args._from + k) k (omega (arith, c.requires.few))) ∙ ap (lane_output (g.S.Slice.bit k)) (sym c.passes.ensures)
