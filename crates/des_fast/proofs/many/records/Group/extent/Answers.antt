-- A record more.
use Rattle.std.proofs.Common.{◌≡◌, ◌+◌, ℕ, refl, ap, sym, ◌∙◌, subst, arith, get_or}
use Rattle.des_fast.specs.Largest.{IsLargest}
use Rattle.des_fast.specs.Records.{start}
use Rattle.des_fast.proofs.LargestNumbers.{IsLargest-more}
use Rattle.des_fast.proofs.RecordPlaces.{start-more}
use Rattle.des_fast.proofs.many.records.Group.extent.Goals as goal

pub records-preserved : goal.records-preserved
records-preserved c = record {
  ends =
      ap (λ (end : ℕ). end + get_or c.args.sizes.now (c.args.self.from + c.records.k) 0) c.records.invariant.ends
      ∙ sym (start-more c.args.sizes.now (c.args.self.from + c.records.k) (omega (arith, c.requires.within)))
      ∙ ap (start c.args.sizes.now) (omega arith);
  longest =
      IsLargest-more c.records.k (λ k. get_or c.args.sizes.now (c.args.self.from + k) 0) c.records.steps
      _ c.max-steps.result refl c.max-steps.ensures c.records.invariant.longest;
}

pub returns-clause-longest : goal.returns-clause-longest
returns-clause-longest c =
    let all : c.records.k ≡ c.args.self.count = omega (arith, c.records.auto.k-end) in
    subst (λ (n : ℕ). IsLargest n (λ k. get_or c.args.sizes.now (c.args.self.from + k) 0)
    c.records.steps) all c.records.invariant.longest
