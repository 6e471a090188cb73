use Rattle.std.proofs.Common.{◌≡◌, ℕ, List, nat_lt, true, take}
use Rattle.std.proofs.lemmas.List.Elements.{All-take}
use Rattle.std.proofs.lemmas.List.Sums.{AllPass-from_list_all, list_all-from_AllPass}
use Rattle.des_payment.proofs.pin_verification.natural_pin.Goals as goal

-- some of the digits are decimals, since all are
pub of_digits-requires-clause-digits : goal.of_digits-requires-clause-digits
of_digits-requires-clause-digits c =
    let test = λ (digit : ℕ). nat_lt digit 10 in
    let digits : List ℕ = c.natural_digits.result in
    list_all-from_AllPass test (take c.args.count digits)
    (All-take (λ (digit : ℕ). test digit ≡ true) c.args.count digits
    (AllPass-from_list_all test digits c.natural_digits.ensures.decimal))
