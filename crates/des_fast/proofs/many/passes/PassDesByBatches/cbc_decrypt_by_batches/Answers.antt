use Rattle.std.proofs.Common.{arith}
use Rattle.des_fast.proofs.SpreadParts.{AreSlicesFor-one}
use Rattle.des_fast.proofs.many.passes.PassDesByBatches.cbc_decrypt_by_batches.Goals as goal

pub returns-clause-cbc_decrypted : goal.returns-clause-cbc_decrypted
returns-clause-cbc_decrypted g c =
    c.cbc_decrypt.ensures.cbc_decrypted _
    (AreSlicesFor-one g.S.Slice.BATCH g.S.Slice.bit c.spread_one.new.slices _ (omega (arith, c.spread_one.ensures.count))
    c.spread_one.ensures.spread)
