-- The blocks side by side are answered, each from its halves to its last ones.
use Rattle.std.proofs.Common.{◌<◌, sym, ◌∙◌, arith}
use Rattle.des_fast.proofs.AnsweredBatches.{answered-at}
use Rattle.des_fast.proofs.side_by_side.process_groups.Goals as goal

pub returns : goal.returns
returns g c =
    answered-at (g.A.BlockTransform.output c.args.passes.now) c.args.blocks.now c.write_blocks.new.blocks
    (c.write_blocks.ensures.count ∙ sym c.requires)
    (λ k below.
    let inside : k < g.G.Groups.BLOCKS = omega (arith, c.requires) in
    c.write_blocks.ensures.written k inside
    ∙ c.process_halves-left.ensures.output k inside _ (c.of_blocks-left.ensures.halves k inside))
