use Rattle.des_fast.proofs.no_tables.four_blocks.sum_of_four.Goals as goal

pub returns : goal.returns
returns c bytes sixth fifth =
    c.sum.ensures 1 c.args.from bytes (c.sum_of_two.ensures bytes sixth) fifth (c.sum_of_two-2.ensures bytes sixth)
