use Rattle.std.proofs.Common.{List, ℕ, ◌<◌, sym, subst, rules, lit<, arith}
use Rattle.std.specs.List.{All}
use Rattle.std.proofs.lemmas.List.Elements.{All-from_get_or}
use Rattle.des_payment.proofs.DigitLists.{digits_of-below}
use Rattle.des_payment.proofs.card_verification.value_of.Goals as goal

-- the digits of bytes are below 16
pub first_decimals-value-requires : goal.first_decimals-value-requires
first_decimals-value-requires c =
    let block : List ℕ = c.args.block.now in
    let small : All (λ byte. byte < 256) block =
    All-from_get_or (λ byte. byte < 256) block 0 (λ i within. search rules) in (
      lit< tt,
      (
        omega arith,
        subst (λ (digits : List ℕ). All (λ digit. digit < 16) digits) (sym c.digits_of.ensures)
            (digits_of-below block small),
      ),
    )
