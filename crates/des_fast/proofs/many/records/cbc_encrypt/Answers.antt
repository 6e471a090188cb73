-- A group more.
use Rattle.std.proofs.Common.{refl, ◌∙◌, arith}
use Rattle.des_fast.proofs.ChainedRecords.{AreChainedBelow-none, CbcEach-all, GoOn-chained}
use Rattle.des_fast.proofs.many.records.cbc_encrypt.Goals as goal

pub groups-init : goal.groups-init
groups-init g c = record {
  within = omega arith;
  starts = refl;
  in_vectors = refl;
  in_blocks = refl;
  chained = λ encryption are.
      AreChainedBelow-none encryption c.args.sizes.now c.args.vectors.now c.args.blocks.now;
}

pub groups-preserved : goal.groups-preserved
groups-preserved g c = record {
  within = omega (arith, c.min-count.ensures, c.groups.invariant.in_vectors);
  starts = c.extent-extent.ensures.end;
  in_vectors = c.cbc_encrypt_group.ensures.vectors ∙ c.groups.invariant.in_vectors;
  in_blocks = c.cbc_encrypt_group.ensures.count ∙ c.groups.invariant.in_blocks;
  chained = λ encryption are.
      c.cbc_encrypt_group.ensures.chained encryption c.args.vectors.now c.args.blocks.now
      are (c.groups.invariant.chained encryption are);
}

pub returns-clause-chained : goal.returns-clause-chained
returns-clause-chained g c encryption are =
    CbcEach-all encryption c.args.sizes.now c.args.vectors.now c.args.blocks.now
    c.groups.vectors c.groups.blocks c.groups.from c.requires.vectors c.requires.whole c.groups.invariant.in_blocks
    c.requires.blocks (omega arith) (c.groups.invariant.chained encryption are)

pub returns-clause-goes_on : goal.returns-clause-goes_on
returns-clause-goes_on g c encryption are =
    GoOn-chained encryption c.args.sizes.now c.args.vectors.now c.args.blocks.now
    c.groups.vectors c.groups.blocks c.groups.from c.requires.vectors c.requires.whole c.groups.invariant.in_blocks
    (omega arith) (c.groups.invariant.chained encryption are)
