use Rattle.std.proofs.Common.{◌≡◌, ℕ, ◌<◌, List, nat_lt, true, IsTrue, length, map, set, get_or, slice_index, refl, sym, ap, ◌∙◌, subst, arith, rules}
use Rattle.std.specs.List.{All, list_all}
use Rattle.std.proofs.lemmas.List.Edits.{map_over_more}
use Rattle.std.proofs.lemmas.List.Elements.{All-map}
use Rattle.std.proofs.lemmas.List.Sums.{AllPass-from_list_all, list_all-from_AllPass}
use Rattle.des_payment.proofs.MappedParts.{mapped-all}
use Rattle.des_payment.proofs.decimal_table.DecimalTable.decimalized.Goals as goal

-- the entries of a table of decimals are decimals
entries : (table digits : List ℕ) → length table ≡ 16 → IsTrue (list_all (λ digit. nat_lt digit 10) table)
    → All (λ digit. digit < 16) digits
    → IsTrue (list_all (λ digit. nat_lt digit 10) (map (slice_index table) digits))
entries table digits long decimal small =
    let test = λ (digit : ℕ). nat_lt digit 10 in
    list_all-from_AllPass test (map (slice_index table) digits)
    (All-map (λ (digit : ℕ). test digit ≡ true) (slice_index table) digits
    (λ i d within.
    let below : get_or digits i d < 16 = small i d within in
    AllPass-from_list_all test table decimal (get_or digits i d) 0 (omega (arith, long, below))))

pub loop-digit-preserved : goal.loop-digit-preserved
loop-digit-preserved c =
    let i : ℕ = c.loop-digit.digit-index in
    ap (set c.loop-digit.digit-items i) c.entry_at.ensures
    ∙ map_over_more (slice_index c.self.inside.digits) c.args.digits.now c.loop-digit.digit-items i
    (get_or c.loop-digit.digit-items i 0) (search rules) c.loop-digit.invariant (search rules)

pub returns-clause-decimal : goal.returns-clause-decimal
returns-clause-decimal c =
    let digits : List ℕ = c.args.digits.now in
    let all : c.loop-digit.digit-items ≡ map (slice_index c.self.inside.digits) digits =
    c.loop-digit.invariant
    ∙ mapped-all (slice_index c.self.inside.digits) c.loop-digit.digit-index digits digits refl (omega arith) in
    subst (λ (xs : List ℕ). IsTrue (list_all (λ digit. nat_lt digit 10) xs)) (sym all)
    (entries c.self.inside.digits digits (omega arith) c.self.invariant c.requires)
