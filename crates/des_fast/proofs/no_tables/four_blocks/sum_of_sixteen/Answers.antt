use Rattle.des_fast.proofs.no_tables.four_blocks.sum_of_sixteen.Goals as goal

pub returns : goal.returns
returns c bytes sixth fifth fourth third =
    c.sum.ensures 3 c.args.from bytes (c.sum_of_eight.ensures bytes sixth fifth fourth) third
    (c.sum_of_eight-2.ensures bytes sixth fifth fourth)
