-- A group more.
use Rattle.std.proofs.Common.{◌≡◌, ℕ, ◌+◌, ◌-◌, ◌++◌, List, map, take, drop, replicate, ap, ◌∙◌, arith}
use Rattle.des_payment.proofs.MappedParts.{mapped-more}
use Rattle.des_payment.proofs.check_value_lists.check_values_by.Goals as goal

pub groups-preserved : goal.groups-preserved
groups-preserved g c =
    let m : ℕ = c.groups.from in
    let count : ℕ = c.min-count.result in
    let n : ℕ = m + count - m in
    let f : g.row.C-Key.Denot → List ℕ = λ key. take 3 (g.C.KeyedCipher.encryption (g.C.Key.KeyBytes.bytes_of key)
    (replicate 8 0)) in
    let next : m + n ≡ m + count = omega arith in record {
      within = omega (arith, c.min-count.ensures);
      written =
          mapped-more f m n c.args.keys.now c.args.values.now c.groups.values c.check_group.new.values
          (omega arith) (omega (arith, c.groups.invariant.within)) c.groups.invariant.written c.check_group.ensures
          ∙ ap (λ (k : ℕ). map f (take k c.args.keys.now) ++ drop k c.args.values.now) next;
    }
