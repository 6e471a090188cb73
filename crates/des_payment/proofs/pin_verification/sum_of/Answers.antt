use Rattle.std.proofs.Common.{◌≡◌, ℕ, ◌≤◌, List, length, sym, ap, ap₂, ◌∙◌, subst, arith}
use Rattle.des_payment.specs.Texts.{IsPin}
use Rattle.des_payment.specs.PinVerification.{sum_of}
use Rattle.des_payment.proofs.ModuloTen.{sum-made, decimal-made}
use Rattle.des_payment.proofs.pin_verification.sum_of.Goals as goal

pub of_digits-requires-clause-digits : goal.of_digits-requires-clause-digits
of_digits-requires-clause-digits c =
    let same = ap length c.text-text.ensures.text in
    decimal-made c.places.digits (length c.text-text.result.now)
    (omega (arith, same, c.text-text.ensures.is_pin.1, c.places.invariant.long))
    (λ k within. let is = c.places.invariant.made k (omega arith) in omega (arith, is))

-- all places are written
pub returns : goal.returns
returns c =
    let known : List ℕ = c.text-known.result.now in
    let text : List ℕ = c.text-text.result.now in
    let is_known : IsPin known = subst IsPin (sym c.text-known.ensures.text) c.text-known.ensures.is_pin in
    let is_text : IsPin text = subst IsPin (sym c.text-text.ensures.text) c.text-text.ensures.is_pin in
    let long_known = ap length c.text-known.ensures.text in
    let long_text = ap length c.text-text.ensures.text in
    let same : length known ≡ length text = omega (arith, long_known, long_text, c.requires) in
    let fits : length text ≤ length c.places.digits = omega (arith, is_text.1, c.places.invariant.long) in
    c.of_digits.ensures
    ∙ sum-made known text c.places.digits is_known is_text same fits
    (λ k within. c.places.invariant.made k (omega arith))
    ∙ ap₂ sum_of c.text-known.ensures.text c.text-text.ensures.text
