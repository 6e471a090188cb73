use Rattle.std.proofs.Common.{List, ℕ, ◌<◌, sym, subst, lit<, arith}
use Rattle.std.specs.List.{All}
use Rattle.des_payment.proofs.DigitLists.{digits_of-below}
use Rattle.des_payment.proofs.pin_verification.pvv.Goals as goal

-- the digits of a block are below 16
pub first_decimals-value-requires : goal.first_decimals-value-requires
first_decimals-value-requires c = (
  lit< tt,
  (
    omega arith,
    subst (λ (digits : List ℕ). All (λ digit. digit < 16) digits) (sym c.digits_of.ensures)
        (digits_of-below c.encrypted_by_ede2-block.result c.encrypted_by_ede2-block.ensures.block.1),
  ),
)
