use Rattle.des_tool.proofs.command.answers.apply_cbc.Goals as goal

-- the contract of the call, in its direction
pub returns-in-Decrypt : goal.returns-in-Decrypt
returns-in-Decrypt g c = rw c.in-Decrypt.is c.decrypt.ensures.cbc_decrypted
