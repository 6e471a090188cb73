-- A group more.
use Rattle.std.proofs.Common.{◌≡◌, ℕ, ◌+◌, ◌-◌, ◌++◌, List, map, take, drop, ap, ◌∙◌, arith}
use Rattle.des_payment.specs.Dukpt.{initial_key}
use Rattle.des_payment.proofs.MappedParts.{mapped-more}
use Rattle.des_payment.proofs.transaction_lists.initial_keys_by.Goals as goal

pub groups-preserved : goal.groups-preserved
groups-preserved g c =
    let m : ℕ = c.groups.from in
    let count : ℕ = c.min-count.result in
    let n : ℕ = m + count - m in
    let f : List ℕ → List ℕ = initial_key c.args.base.now in
    let next : m + n ≡ m + count = omega arith in record {
      within = omega (arith, c.min-count.ensures);
      written =
          mapped-more f m n c.args.serials.now c.args.keys.now c.groups.keys c.initial_group.new.keys
          (omega arith) (omega (arith, c.groups.invariant.within)) c.groups.invariant.written c.initial_group.ensures
          ∙ ap (λ (k : ℕ). map f (take k c.args.serials.now) ++ drop k c.args.keys.now) next;
    }
