use Rattle.std.proofs.Common.{refl}
use Rattle.des_uses.proofs.partners.encrypt_twice.Goals as goal

pub returns-clause-undone : goal.returns-clause-undone
returns-clause-undone c told =
    c.is_partner.ensures.twice told refl c.args.block.now c.encrypt_block.new.block c.encrypt_block-2.new.block
    (c.encrypt_block.ensures.enciphers c.args.key.now c.new-cipher.ensures.made).0
    (c.encrypt_block-2.ensures.enciphers c.args.key.now c.new-cipher.ensures.made).0
