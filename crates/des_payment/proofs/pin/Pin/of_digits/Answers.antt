use Rattle.std.proofs.Common.{◌≡◌, ℕ, List, ◌++◌, length, take, drop, replicate, sym, ap, ◌∙◌, subst, arith}
use Rattle.std.proofs.lemmas.List.{take_at, length-map}
use Rattle.des_payment.specs.Texts.{IsPin, text_of}
use Rattle.des_payment.proofs.TextDigits.{are_digits-text_of}
use Rattle.des_payment.proofs.pin.Pin.of_digits.Goals as goal

-- the text is that of the digits
pub invariant_of-result : goal.invariant_of-result
invariant_of-result c =
    let digits : List ℕ = c.args.digits.now in
    let n : ℕ = length digits in
    let rest : List ℕ = drop n (c.copy_from_slice.new.self ++ drop n (replicate 12 0)) in
    let copied : take n (c.copy_from_slice.new.self ++ drop n (replicate 12 0)) ≡ digits =
    take_at c.copy_from_slice.new.self (drop n (replicate 12 0)) n (ap length c.copy_from_slice.ensures.after)
    ∙ c.copy_from_slice.ensures.after in
    let made : c.to_text.new.digits ≡ text_of digits = c.to_text.ensures ∙ ap text_of copied in
    let long : length (text_of digits) ≡ n = length-map digits _ in
    let shown : take n (c.to_text.new.digits ++ rest) ≡ text_of digits =
    take_at c.to_text.new.digits rest n (ap length made ∙ long) ∙ made in (
      c.requires.at_most,
      subst (λ (text : List ℕ). IsPin text) (sym shown)
          (omega arith, omega arith, are_digits-text_of digits c.requires.digits),
    )
