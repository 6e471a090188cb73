use Rattle.std.proofs.Common.{◌+◌, arith}
use Rattle.des_fast.proofs.RecordPlaces.{end-within}
use Rattle.des_fast.proofs.many.records.fill_lanes.Goals as goal

pub bounds-blocks-start : goal.bounds-blocks-start
bounds-blocks-start c =
    omega (
      arith,
      c.records.invariant.starts,
      c.requires.whole,
      end-within c.args.sizes.now (c.args.group.from + c.records.k) (omega (arith, c.requires.within)),
    )
