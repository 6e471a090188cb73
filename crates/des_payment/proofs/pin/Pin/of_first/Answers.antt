use Rattle.std.proofs.Common.{◌≡◌, ℕ, ◌+◌, List, length, take, IsTrue, sym, ap, ◌∙◌, subst, arith}
use Rattle.std.proofs.lemmas.List.{length-map, length-take-le, take-map}
use Rattle.des_payment.specs.Texts.{are_digits}
use Rattle.des_payment.proofs.TextDigits.{are_digits-text_of, are_digits-part}
use Rattle.des_payment.proofs.pin.Pin.of_first.Goals as goal

-- the first characters of the text are those of the first digits
pub invariant_of-result : goal.invariant_of-result
invariant_of-result c =
    let text : List ℕ = c.to_text.new.digits in
    let count : ℕ = c.args.count in
    let long : length text ≡ 12 = ap length c.to_text.ensures ∙ length-map c.args.digits.now _ ∙ c.told-digits in
    let taken : length (take count text) ≡ count = length-take-le count text (omega (arith, c.requires.at_most)) in
    let digits : IsTrue (are_digits text) =
    subst (λ (xs : List ℕ). IsTrue (are_digits xs)) (sym c.to_text.ensures)
    (are_digits-text_of c.args.digits.now c.requires.digits) in (
      c.requires.at_most,
      (omega (arith, c.requires.at_least), omega (arith, c.requires.at_most), are_digits-part text 0 count digits),
    )

pub returns : goal.returns
returns c =
    ap (take c.args.count) c.to_text.ensures ∙ take-map (λ (digit : ℕ). digit + 48) c.args.count c.args.digits.now
