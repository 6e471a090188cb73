use Rattle.std.proofs.Common.{◌<◌}
use Rattle.std.proofs.lemmas.List.Elements.{All-from_get_or}
use Rattle.des_fast.proofs.RelatedCbc.{CbcUnder-des}
use Rattle.des_fast.proofs.many.ciphers.DesManyBlocks.encrypt_cbc_list.Goals as goal

pub returns-then-no_tables-clause-related : goal.returns-then-no_tables-clause-related
returns-then-no_tables-clause-related c key made =
    CbcUnder-des c.args.self.now key made.0 made.1.0 c.args.iv.now c.args.blocks.now c.cbc_encrypt.new.blocks
    (c.told-iv, All-from_get_or (λ byte. byte < 256) c.args.iv.now 0 (λ i within. c.fits-iv i))
    c.cbc_encrypt.ensures.blocks (rw c.pass-passes.ensures at c.cbc_encrypt.ensures.chained)

pub returns-else-no_tables-clause-related : goal.returns-else-no_tables-clause-related
returns-else-no_tables-clause-related c key made =
    CbcUnder-des c.args.self.now key made.0 made.1.0 c.args.iv.now c.args.blocks.now c.cbc_encrypt-else-no_tables.new.blocks
    (c.told-iv, All-from_get_or (λ byte. byte < 256) c.args.iv.now 0 (λ i within. c.fits-iv i))
    c.cbc_encrypt-else-no_tables.ensures.blocks (rw c.pass-passes.ensures at c.cbc_encrypt-else-no_tables.ensures.chained)
