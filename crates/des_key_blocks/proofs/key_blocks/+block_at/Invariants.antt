use Rattle.des_key_blocks.proofs.key_blocks.+block_at.Given as goal

abbrev pub decreases-block_at : goal.decreases-block_at
decreases-block_at l = l.place
