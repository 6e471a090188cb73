use Rattle.des_fast.proofs.no_tables.four_blocks.sum_of_two.Goals as goal

pub returns : goal.returns
returns c bytes sixth = c.sum.ensures 0 c.args.from bytes (c.term.ensures bytes) sixth (c.term-2.ensures bytes)
