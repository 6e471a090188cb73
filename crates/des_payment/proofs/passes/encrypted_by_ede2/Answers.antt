use Rattle.des_payment.proofs.passes.encrypted_by_ede2.Goals as goal

-- what the last of the three passes makes is a block
pub returns-clause-block : goal.returns-clause-block
returns-clause-block c =
    let one = c.encrypt_block.ensures.enciphers c.args.key.now c.new.ensures.made in
    one.0.1.1.1.2.last_is_block
