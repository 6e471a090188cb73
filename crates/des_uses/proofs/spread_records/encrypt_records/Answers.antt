use Rattle.des_uses.proofs.spread_records.encrypt_records.Goals as goal

-- the keys are those of the cipher
pub returns-clause-chained : goal.returns-clause-chained
returns-clause-chained g c =
    c.in_ok-encrypt_cbc_records.ensures.chained (g.C.BlockCipherEncrypt.encrypted c.args.cipher.now)
    (g.C.BlockCipherDecrypt.decrypted c.args.cipher.now)
    c.spread_keys-keys.ensures

pub returns-clause-goes_on : goal.returns-clause-goes_on
returns-clause-goes_on g c =
    c.in_ok-encrypt_cbc_records.ensures.goes_on (g.C.BlockCipherEncrypt.encrypted c.args.cipher.now)
    (g.C.BlockCipherDecrypt.decrypted c.args.cipher.now)
    c.spread_keys-keys.ensures
