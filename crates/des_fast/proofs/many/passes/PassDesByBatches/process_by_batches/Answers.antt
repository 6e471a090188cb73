use Rattle.std.proofs.Common.{arith}
use Rattle.des_fast.proofs.SpreadParts.{AreSlicesFor-one}
use Rattle.des_fast.proofs.many.passes.PassDesByBatches.process_by_batches.Goals as goal

pub returns-clause-processed : goal.returns-clause-processed
returns-clause-processed g c =
    c.process.ensures.processed _
    (AreSlicesFor-one g.S.Slice.BATCH g.S.Slice.bit c.spread_one.new.slices _ (omega (arith, c.spread_one.ensures.count))
    c.spread_one.ensures.spread)
