-- A part more.
use Rattle.std.proofs.Common.{◌≡◌, ℕ, ◌+◌, ◌-◌, ◌++◌, List, [], length, get_or, map, take, drop, ap, ◌∙◌, arith, length-take-le}
use Rattle.std.proofs.lemmas.List.{length-drop}
use Rattle.des_fast.proofs.AnsweredBatches.{answered-at, answered-more, answered-all}
use Rattle.des_fast.proofs.many.process.Goals as goal

pub parts-preserved : goal.parts-preserved
parts-preserved g c = (
  omega (arith, c.min-count.ensures),
  λ f are.
      let m : ℕ = c.parts.from in
      let count : ℕ = c.min-count.result in
      let n : ℕ = m + count - m in
      let old : List (List ℕ) = c.args.blocks.now in
      let part : List (List ℕ) = take n (drop m c.parts.blocks) in
      let next : m + n ≡ m + count = omega arith in
      let in_part : length part ≡ n =
      length-take-le n (drop m c.parts.blocks)
      (omega (arith, length-drop m c.parts.blocks, c.min-count.ensures)) in
      answered-more f m n old c.parts.blocks c.process_lanes_part.new.blocks (omega (arith, c.parts.invariant.0))
      (c.parts.invariant.1 f are)
      (answered-at f part c.process_lanes_part.new.blocks c.process_lanes_part.ensures.count
      (λ k below.
      c.process_lanes_part.ensures.lanes k below
      ∙ ap (λ (g : List ℕ → List ℕ). g (get_or part k []))
      (are k (omega (arith, in_part, c.min-count.ensures, c.BATCH.ensures)))))
      ∙ ap (λ (k : ℕ). map f (take k old) ++ drop k old) next,
)

pub returns-clause-processed : goal.returns-clause-processed
returns-clause-processed g c f are =
    c.parts.invariant.1 f are
    ∙ answered-all f c.parts.from c.args.blocks.now (omega arith)
