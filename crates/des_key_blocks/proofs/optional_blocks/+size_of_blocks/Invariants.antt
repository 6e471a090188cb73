use Rattle.des_key_blocks.proofs.optional_blocks.+size_of_blocks.Given as goal

abbrev pub decreases-size_of_blocks : goal.decreases-size_of_blocks
decreases-size_of_blocks l = l.count
