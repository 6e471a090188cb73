use Rattle.std.proofs.Common.{ℕ, List, nat_lt, IsTrue, sym, ap, ◌∙◌, subst}
use Rattle.std.specs.List.{list_all}
use Rattle.des_payment.specs.Texts.{values}
use Rattle.des_payment.proofs.TextDigits.{decimal-values}
use Rattle.des_payment.proofs.decimal_table.DecimalTable.of_variety.Goals as goal

-- the values of digits are decimals
pub invariant_of-result : goal.invariant_of-result
invariant_of-result c =
    subst (λ (xs : List ℕ). IsTrue (list_all (λ digit. nat_lt digit 10) xs))
    (sym (c.to_values.ensures ∙ ap values c.copy_from_slice.ensures.after))
    (decimal-values c.args.text.now c.in_ok-check_number.ensures.number.2)
