use Rattle.des_c.proofs.payment.dukpt.cukvashe_dukpt_data_key.Goals as goal

pub returns : goal.returns
returns c = rw c.message_of.ensures at c.data_key.ensures
