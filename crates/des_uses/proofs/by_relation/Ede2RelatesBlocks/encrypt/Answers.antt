use Rattle.des_uses.proofs.by_relation.Ede2RelatesBlocks.encrypt.Goals as goal

pub returns-clause-enciphers : goal.returns-clause-enciphers
returns-clause-enciphers g c key made = c.encrypt_block.ensures.enciphers key made.0
