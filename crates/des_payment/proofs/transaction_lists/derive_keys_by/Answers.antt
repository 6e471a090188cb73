-- A group more.
use Rattle.std.proofs.Common.{◌≡◌, ℕ, ◌+◌, ◌-◌, ◌++◌, List, take, drop, ap, ◌∙◌, arith}
use Rattle.std.specs.Simd.Lanes.{zip2}
use Rattle.des_fast.proofs.ZippedParts.{zipped-more}
use Rattle.des_payment.specs.Dukpt.{transaction_key}
use Rattle.des_payment.proofs.transaction_lists.derive_keys_by.Goals as goal

pub groups-preserved : goal.groups-preserved
groups-preserved g c =
    let m : ℕ = c.groups.from in
    let count : ℕ = c.min-count.result in
    let n : ℕ = m + count - m in
    let f : List ℕ → List ℕ → List ℕ = λ serial key. transaction_key key serial in
    let serials : List (List ℕ) = c.args.serials.now in
    let old : List (List ℕ) = c.args.keys.now in
    let next : m + n ≡ m + count = omega arith in record {
      within = omega (arith, c.min-count.ensures);
      derived =
          zipped-more f m n serials old c.groups.keys c.derive_group.new.keys (omega arith)
          (omega (arith, c.groups.invariant.within)) c.groups.invariant.derived c.derive_group.ensures
          ∙ ap (λ (k : ℕ). zip2 f (take k serials) (take k old) ++ drop k old) next;
    }
