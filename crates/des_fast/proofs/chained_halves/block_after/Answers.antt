use Rattle.std.proofs.Common.{◌<◌, sym, arith}
use Rattle.des.specs.Laws.BlockBits.{IsBlock-block_of_bits}
use Rattle.des_fast.proofs.HalfPasses.{halves-next}
use Rattle.des_fast.proofs.chained_halves.block_after.Goals as goal

pub returns-clause-block : goal.returns-clause-block
returns-clause-block g c =
    let one : 0 < g.G.Groups.BLOCKS = omega (arith, g.met.G.OneWord.is_one) in c.write_blocks.ensures.written 0 one

-- its halves are those after its rounds, each in the place of the other
pub returns-clause-halves : goal.returns-clause-halves
returns-clause-halves g c =
    let is = returns-clause-block g c in record {
      count = rw is (IsBlock-block_of_bits _).0;
      first = halves-next _ _ _ (sym is);
    }
