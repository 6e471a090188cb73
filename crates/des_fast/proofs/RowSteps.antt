-- What steps of eight rows come to: where each bit comes from is computed, for all rows and all bits.
use Rattle.std.proofs.Common.{◌≡◌, ℕ, ◌<◌, ◌==◌, Bool, true, false, ◌&&◌, nat_lt, List, [], ◌∷◌, map, get_or, ap, ap₂, sym, ◌∙◌}
use Rattle.std.specs.List.{range_with_len, list_all}
use Rattle.std.proofs.lemmas.Bool.{and_parts, eqb-true, ltb-true}
use Rattle.des_fast.specs.Transposition.{IsFrom, ArePairwise, pairwise, comes_from, all_come_from}
use Rattle.des_fast.proofs.RangeTests.{at_range}

-- steps, the last one first, lead from rows to others
abbrev pub AreAfterSteps : {A : Type 0} → ℕ → (ℕ → A → Bool) → List (ℕ → ℕ → ℕ × ℕ) → List A → List A → Type 0
AreAfterSteps batch bit [] rows answer = rows ≡ answer
AreAfterSteps {A} batch bit (step ∷ steps) rows answer =
    (middle : List A) × (ArePairwise batch bit 4 step middle answer × AreAfterSteps batch bit steps rows middle)

-- a bit after steps comes from the place that the test says
IsFrom-tested : {A : Type 0} (batch : ℕ) (bit : ℕ → A → Bool) (steps : List (ℕ → ℕ → ℕ × ℕ)) (rows answer : List A)
    (from : ℕ × ℕ) (m b : ℕ) → AreAfterSteps batch bit steps rows answer → m < 8 → b < batch
    → comes_from batch steps from m b ≡ true → IsFrom bit rows answer m b from
IsFrom-tested batch bit [] rows answer from m b are below within test =
    let same = and_parts (m == from.0) (b == from.1) test in
    ap (λ (xs : List _). get_or (map (bit b) xs) m false) (sym are)
    ∙ ap₂ (λ (n c : ℕ). get_or (map (bit c) rows) n false) (eqb-true _ _ same.0) (eqb-true _ _ same.1)
IsFrom-tested batch bit (step ∷ steps) rows answer from m b are below within test =
    let before : ℕ × ℕ = pairwise 4 step m b in
    let outer = and_parts (nat_lt before.0 8 && nat_lt before.1 batch) _ test in
    let inside = and_parts (nat_lt before.0 8) (nat_lt before.1 batch) outer.0 in
    are.1.0 m below b within
    ∙ IsFrom-tested batch bit steps rows are.0 from before.0 before.1 are.1.1 (ltb-true _ _ inside.0)
    (ltb-true _ _ inside.1) outer.1

-- all bits after steps
pub IsFrom-steps : {A : Type 0} (batch : ℕ) (bit : ℕ → A → Bool) (steps : List (ℕ → ℕ → ℕ × ℕ)) (from : ℕ → ℕ → ℕ × ℕ)
    (rows answer : List A) → all_come_from batch steps from ≡ true → AreAfterSteps batch bit steps rows answer
    → (m : ℕ) → m < 8 → (b : ℕ) → b < batch → IsFrom bit rows answer m b (from m b)
IsFrom-steps batch bit steps from rows answer all are m below b within =
    let at_row : list_all (λ c. comes_from batch steps (from m c) m c) (range_with_len 0 batch) ≡ true =
    at_range (λ n. list_all (λ c. comes_from batch steps (from n c) n c) (range_with_len 0 batch)) 8 m all below in
    IsFrom-tested batch bit steps rows answer (from m b) m b are below within
    (at_range (λ c. comes_from batch steps (from m c) m c) batch b at_row within)
