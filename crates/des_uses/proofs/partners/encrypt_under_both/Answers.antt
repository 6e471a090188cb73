use Rattle.std.proofs.Common.{sym}
use Rattle.des_uses.proofs.partners.encrypt_under_both.Goals as goal

-- what the first key takes a block to, the second takes back
pub returns-clause-undone : goal.returns-clause-undone
returns-clause-undone c told =
    let there = (c.encrypt_block.ensures.enciphers c.args.first.now c.new-cipher.ensures.made).0 in
    let back = (c.is_partner.ensures.undone told c.args.block.now c.encrypt_block.new.block).0 there in
    sym ((c.encrypt_block-2.ensures.enciphers c.args.second.now c.new-partner.ensures.made).1 c.args.block.now back)

-- what the second takes a block to, the first takes back
pub returns-clause-other_undone : goal.returns-clause-other_undone
returns-clause-other_undone c told =
    let there = (c.encrypt_block-3.ensures.enciphers c.args.second.now c.new-partner.ensures.made).0 in
    let back = (c.is_partner.ensures.undone told c.encrypt_block-3.new.block c.args.other.now).1 there in
    sym ((c.encrypt_block-4.ensures.enciphers c.args.first.now c.new-cipher.ensures.made).1 c.args.other.now back)
