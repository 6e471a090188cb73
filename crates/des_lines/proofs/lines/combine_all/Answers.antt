use Rattle.std.proofs.Common.{◌≡◌, ℕ, ◌-◌, ◌≤◌, true, false, List, [], ◌∷◌, length, take, drop, get_or, refl, sym, subst, ap₂, ◌∙◌, ap, arith}
use Rattle.std.proofs.lemmas.List.{take_all}
use Rattle.std.proofs.lemmas.Result.{err_from_is_err_and}
use Rattle.des.specs.WeakKeys.{IsRefused}
use Rattle.des_payment.specs.Components.{combined}
use Rattle.des_lines.proofs.Components.{enough}
use Rattle.des_lines.proofs.Faults.{refuses, accepts}
use Rattle.des_lines.proofs.lines.combine_all.Goals as goal

-- a list by its first two elements
two_first : (xs : List (List ℕ)) (a b : List ℕ) → 2 ≤ length xs → a ≡ get_or xs 0 a → b ≡ get_or xs 1 b
    → a ∷ b ∷ take (length xs - 2) (drop 2 xs) ≡ xs
two_first [] a b long first second = absurd (omega arith)
two_first (x ∷ []) a b long first second = absurd (omega arith)
two_first (x ∷ y ∷ rest) a b long first second =
    let all : take (length (x ∷ y ∷ rest) - 2) rest ≡ rest = take_all (length (x ∷ y ∷ rest) - 2) rest (omega arith) in
    ap (λ (zs : List (List ℕ)). a ∷ b ∷ zs) all ∙ ap₂ (λ (u v : List ℕ). u ∷ v ∷ rest) first second

-- the key of the components is refused
pub returns-in_err-combine-in-len2-up-clause-fault : goal.returns-in_err-combine-in-len2-up-clause-fault
returns-in_err-combine-in-len2-up-clause-fault g c =
    let p = err_from_is_err_and c.from_residual.result c.from_residual.ensures.1 in
    let two = two_first c.args.components.now _ _ c.in-len2-up.len_at_least c.first-item.is c.second-item.is in
    let refused = subst (λ (xs : List (List ℕ)). IsRefused (combined xs)) two
    (c.in_err-combine-in-len2-up.ensures.refused.0 refl) in
    rw p.1 (refuses (List ℕ) (IsRefused (combined c.args.components.now)) _ _ (enough _ c.in-len2-up.len_at_least) p.2
    refused)

-- or it is not
pub returns-in_ok-combine-in-len2-up-clause-fault : goal.returns-in_ok-combine-in-len2-up-clause-fault
returns-in_ok-combine-in-len2-up-clause-fault g c =
    let two = two_first c.args.components.now _ _ c.in-len2-up.len_at_least c.first-item.is c.second-item.is in
    accepts (List ℕ) (IsRefused (combined c.args.components.now)) _ _ (enough _ c.in-len2-up.len_at_least)
    (λ refused. let bad : false ≡ true =
    c.in_ok-combine-in-len2-up.ensures.refused.1
    (subst (λ (xs : List (List ℕ)). IsRefused (combined xs)) (sym two) refused) in cc bad)
