-- A step more, and the end of the longest list.
use Rattle.std.proofs.Common.{◌≡◌, ℕ, ◌+◌, List, [], length, get_or, sym, arith}
use Rattle.des_fast.specs.EachKey.{lane_output}
use Rattle.des_fast.proofs.LastChainingValues.{chain_from-none, AreChainingValues-more}
use Rattle.des_fast.proofs.many.chaining_values.last_values_of_group.Goals as goal

pub steps-init : goal.steps-init
steps-init g c k below =
    sym (chain_from-none (lane_output (g.S.Slice.bit k) c.args.passes.now) (get_or c.args.chains.now k [])
    (g.L.BlockLists.block_of c.args.lists.now (c.args.from + k)) _ (omega arith))

pub steps-preserved : goal.steps-preserved
steps-preserved g c =
    let firsts : List (List ℕ) = c.args.chains.now in
    let now : List (List ℕ) = c.steps.chains in
    let same : length now ≡ length firsts = c.steps.auto.chains in
    AreChainingValues-more (λ k. lane_output (g.S.Slice.bit k) c.args.passes.now)
    (λ k. g.L.BlockLists.block_of c.args.lists.now (c.args.from + k))
    (λ k. g.L.BlockLists.count_of c.args.lists.now (c.args.from + k))
    firsts now c.add_step.new.lanes c.process_filled.new.lanes c.keep_step.new.chains c.steps.i g.S.Slice.BATCH
    c.requires.few c.steps.invariant
    (λ k below more. c.add_step.ensures k (omega arith) more)
    c.process_filled.ensures
    (λ k below more. c.keep_step.ensures.gone_on k (omega arith) more)
    (λ k below all. c.keep_step.ensures.ended k (omega arith) all)
