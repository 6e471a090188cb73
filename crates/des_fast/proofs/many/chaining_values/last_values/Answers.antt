-- A group more.
use Rattle.std.proofs.Common.{◌≡◌, ℕ, ◌+◌, ◌-◌, ◌≤◌, List, length, drop, sym, ◌∙◌, arith, length-take-le}
use Rattle.std.proofs.lemmas.List.{length-drop}
use Rattle.des_fast.proofs.LastChainingValues.{AreChainingValues-group, get_or-put_past}
use Rattle.des_fast.proofs.many.chaining_values.last_values.Goals as goal

pub groups-preserved : goal.groups-preserved
groups-preserved g c =
    let m : ℕ = c.groups.from in
    let n : ℕ = c.min-count.result in
    let w : ℕ = m + n - m in
    let firsts : List (List ℕ) = c.args.chains.now in
    let now : List (List ℕ) = c.groups.chains in
    let part : List (List ℕ) = c.last_values_of_group.new.chains in
    let same : length now ≡ length firsts = c.groups.auto.chains in
    let there : m + n ≤ length firsts = omega (arith, c.min-count.ensures, same) in
    let is : w ≡ n = omega arith in
    let count : length part ≡ n =
    c.last_values_of_group.ensures.count ∙ length-take-le w (drop m now) (omega (arith, length-drop m now)) ∙ is in record {
      within = there;
      made = λ encryption are.
          AreChainingValues-group encryption _ (g.L.BlockLists.block_of c.args.lists.now)
          (g.L.BlockLists.count_of c.args.lists.now) m n w firsts now part there same is count
          (λ j below. sym (c.encryption-passes.ensures encryption are j below))
          (c.groups.invariant.made encryption are) c.groups.invariant.rest c.last_values_of_group.ensures.ends;
      rest = λ k past.
          get_or-put_past m w now part k (omega arith) (omega arith) (count ∙ sym is)
          ∙ c.groups.invariant.rest k (omega arith);
    }
