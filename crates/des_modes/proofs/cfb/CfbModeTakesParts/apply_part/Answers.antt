use Rattle.des_modes.proofs.cfb.CfbModeTakesParts.apply_part.Goals as goal

pub returns-in-Encrypt-clause-goes : goal.returns-in-Encrypt-clause-goes
returns-in-Encrypt-clause-goes g c = rw c.in-Encrypt.is c.encrypt_segments.ensures.goes

pub returns-in-Decrypt-clause-goes : goal.returns-in-Decrypt-clause-goes
returns-in-Decrypt-clause-goes g c = rw c.in-Decrypt.is c.decrypt_segments.ensures.goes
