use Rattle.std.proofs.Common.{ℕ, ◌<◌, sym, subst}
use Rattle.std.proofs.lemmas.List.Elements.{All-take}
use Rattle.des_payment.proofs.FieldDigits.{AreDigits, AreDigits-values}
use Rattle.des_payment.proofs.card_verification.first_block.Goals as goal

-- the values of the text are digits
pub block_of-requires-clause-digits : goal.block_of-requires-clause-digits
block_of-requires-clause-digits c =
    All-take (λ (digit : ℕ). digit < 16) 16 c.to_values.new.text
    (subst AreDigits (sym c.to_values.ensures) (AreDigits-values c.args.text.now c.requires))
