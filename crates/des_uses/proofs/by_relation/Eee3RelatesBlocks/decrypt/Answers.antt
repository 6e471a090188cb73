use Rattle.des_uses.proofs.by_relation.Eee3RelatesBlocks.decrypt.Goals as goal

pub returns-clause-deciphers : goal.returns-clause-deciphers
returns-clause-deciphers g c key made = c.decrypt_block.ensures.deciphers key made.0
