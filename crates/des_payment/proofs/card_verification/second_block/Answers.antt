use Rattle.std.proofs.Common.{◌≡◌, ℕ, ◌-◌, ◌<◌, List, length, take, drop, sym, ap, ◌∙◌, subst, arith}
use Rattle.std.proofs.lemmas.List.{take_all, length-drop, length-map}
use Rattle.std.proofs.lemmas.List.Elements.{All-take, All-drop}
use Rattle.des_payment.specs.Digits.{bytes_of}
use Rattle.des_payment.proofs.FieldDigits.{AreDigits, AreDigits-values}
use Rattle.des_payment.proofs.card_verification.second_block.Goals as goal

-- the values of the text are digits
pub block_of-requires-clause-digits : goal.block_of-requires-clause-digits
block_of-requires-clause-digits c =
    let IsDigit : ℕ → Type 0 = λ digit. digit < 16 in
    let digits : List ℕ = c.to_values.new.text in
    All-take IsDigit 16 (drop 16 digits)
    (All-drop IsDigit 16 digits
    (subst AreDigits (sym c.to_values.ensures) (AreDigits-values c.args.text.now c.requires)))

pub returns : goal.returns
returns c =
    let digits : List ℕ = c.to_values.new.text in
    let rest : take 16 (drop 16 digits) ≡ drop 16 digits =
    take_all 16 (drop 16 digits)
    (omega (
      arith,
      length-drop 16 digits,
      ap length c.to_values.ensures,
      length-map c.args.text.now (λ (x : ℕ). x - 48),
      c.told-text,
    )) in
    c.block_of.ensures.bytes ∙ ap bytes_of rest
    ∙ ap (λ (xs : List ℕ). bytes_of (drop 16 xs)) c.to_values.ensures
