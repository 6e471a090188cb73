use Rattle.std.proofs.Common.{◌≡◌, ℕ, ◌-◌, List, ◌++◌, take, drop, length, subst, sym, ap, ap₂, ◌∙◌, IsTrue, arith}
use Rattle.std.proofs.lemmas.List.{take_all, length-drop}
use Rattle.des_payment.specs.Texts.{are_digits, values, unchecked}
use Rattle.des_payment.proofs.TextDigits.{are_digits-part}
use Rattle.des_payment.proofs.LastDigits.{account_field-made}
use Rattle.des_payment.proofs.fields.account_field.Goals as goal

pub to_values-requires : goal.to_values-requires
to_values-requires c =
    let account : List ℕ = c.args.account.now in
    let digits : List ℕ = unchecked account in
    subst (λ (text : List ℕ). IsTrue (are_digits text)) (sym c.copy_from_slice.ensures.after)
    (are_digits-part digits c.saturating_sub.result (length digits - c.saturating_sub.result)
    (are_digits-part account 0 (length account - 1) c.in_ok-check_number.ensures.number.2))

pub returns-clause-field : goal.returns-clause-field
returns-clause-field c =
    let digits : List ℕ = unchecked c.args.account.now in
    let place : ℕ = c.saturating_sub.result in
    let last : List ℕ = take (length digits - place) (drop place digits) in
    let is : last ≡ drop (length digits - 12) digits =
    take_all (length digits - place) (drop place digits) (omega (arith, length-drop place digits))
    ∙ ap (λ (n : ℕ). drop n digits) c.saturating_sub.ensures in
    ap₂ (λ (xs ys : List ℕ). xs ++ ys) c.split_at_mut-back.ensures.front
    (c.to_values.ensures ∙ ap values c.copy_from_slice.ensures.after)
    ∙ account_field-made digits last is
