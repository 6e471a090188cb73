-- A part more.
use Rattle.std.proofs.Common.{◌≡◌, ℕ, ◌+◌, ◌-◌, ◌++◌, List, map, take, drop, ap, ◌∙◌, arith}
use Rattle.des_fast.proofs.AnsweredBatches.{answered-more}
use Rattle.des_fast.proofs.lists.process.Goals as goal

pub parts-preserved : goal.parts-preserved
parts-preserved g c =
    let m : ℕ = c.parts.from in
    let count : ℕ = c.next_count-count.result in
    let n : ℕ = m + count - m in
    let f : List ℕ → List ℕ = g.A.BlockTransform.output c.args.passes.now in
    let old : List (List ℕ) = c.args.blocks.now in
    let next : m + n ≡ m + count = omega arith in (
      omega (arith, c.next_count-count.ensures.within),
      answered-more f m n old c.parts.blocks c.process_some.new.blocks (omega (arith, c.parts.invariant.0)) c.parts.invariant.1
          c.process_some.ensures
          ∙ ap (λ (k : ℕ). map f (take k old) ++ drop k old) next,
    )
