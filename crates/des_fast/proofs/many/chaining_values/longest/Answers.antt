-- A list more.
use Rattle.std.proofs.Common.{◌≡◌, ◌+◌, ℕ, subst, arith}
use Rattle.des_fast.specs.Largest.{IsLargest}
use Rattle.des_fast.proofs.LargestNumbers.{IsLargest-more}
use Rattle.des_fast.proofs.many.chaining_values.longest.Goals as goal

pub lists-preserved : goal.lists-preserved
lists-preserved g c =
    IsLargest-more c.lists.k (λ k. g.L.BlockLists.count_of c.args.lists.now (c.args.from + k)) c.lists.most
    c.count.result c.max-most.result c.count.ensures c.max-most.ensures c.lists.invariant

pub returns : goal.returns
returns g c =
    let all : c.lists.k ≡ c.args.count = omega (arith, c.lists.auto.k-end) in
    subst (λ (n : ℕ). IsLargest n (λ k. g.L.BlockLists.count_of c.args.lists.now (c.args.from + k)) c.lists.most) all
    c.lists.invariant
