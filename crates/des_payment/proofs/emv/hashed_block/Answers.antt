use Rattle.std.proofs.Common.{ℕ, ◌<◌, List, sym, subst, arith, rules, lit<}
use Rattle.std.specs.List.{All}
use Rattle.std.proofs.lemmas.List.Elements.{All-from_get_or}
use Rattle.des_payment.proofs.DigitLists.{digits_of-below}
use Rattle.des_payment.proofs.emv.hashed_block.Goals as goal

-- the digits of a hash are below 16
pub first_decimals-requires : goal.first_decimals-requires
first_decimals-requires c =
    let hash : List ℕ = c.hash_of.result in
    let small : All (λ byte. byte < 256) hash =
    All-from_get_or (λ byte. byte < 256) hash 0 (λ i within. search rules) in (
      lit< tt,
      (
        omega arith,
        subst (λ (digits : List ℕ). All (λ digit. digit < 16) digits) (sym c.write_digits.ensures)
            (digits_of-below hash small),
      ),
    )
