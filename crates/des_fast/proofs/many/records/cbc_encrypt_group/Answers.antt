-- A step more.
use Rattle.std.proofs.Common.{ℕ, List, [], get_or, ap, ◌∙◌, arith}
use Rattle.des_fast.proofs.ChainedRecords.{AreInStep-more, AreInStep-all}
use Rattle.des_fast.proofs.many.records.cbc_encrypt_group.Goals as goal

pub steps-preserved : goal.steps-preserved
steps-preserved g c = record {
  in_vectors = c.write_lanes.ensures.vectors ∙ c.steps.invariant.in_vectors;
  in_blocks = c.write_lanes.ensures.count ∙ c.steps.invariant.in_blocks;
  chained = λ encryption first p by are.
      AreInStep-more encryption c.args.sizes.now first p c.steps.vectors c.steps.blocks
      c.write_lanes.new.vectors c.write_lanes.new.blocks c.fill_lanes.new.lanes c.process_filled.new.lanes
      c.args.group.from c.args.group.count c.steps.i c.requires.within c.fill_lanes.ensures
      (λ k below.
      c.process_filled.ensures k (omega (arith, c.requires.few))
      ∙ ap (λ (answer : List ℕ → List ℕ). answer (get_or c.fill_lanes.new.lanes k [])) (by k (omega (arith, c.requires.few))))
      c.write_lanes.ensures.written (c.steps.invariant.chained encryption first p by are);
}

pub returns-clause-chained : goal.returns-clause-chained
returns-clause-chained g c encryption first p by are =
    AreInStep-all encryption c.args.sizes.now first p c.steps.vectors c.steps.blocks
    c.args.group.from c.args.group.count c.steps.i (λ k below. omega (arith, c.requires.longest k below))
    (c.steps.invariant.chained encryption first p by are)
