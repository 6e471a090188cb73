use Rattle.des_fast.proofs.no_tables.four_blocks.sum_of_eight.Goals as goal

pub returns : goal.returns
returns c bytes sixth fifth fourth =
    c.sum.ensures 2 c.args.from bytes (c.sum_of_four.ensures bytes sixth fifth) fourth
    (c.sum_of_four-2.ensures bytes sixth fifth)
