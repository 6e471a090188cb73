use Rattle.des_rows.proofs.related_lists.encrypt_under.Goals as goal

pub returns-clause-enciphered : goal.returns-clause-enciphered
returns-clause-enciphered g c = c.encrypt_related.ensures.enciphered c.args.key.now c.in_ok-new_from_slice.ensures.made
