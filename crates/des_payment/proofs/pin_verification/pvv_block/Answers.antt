use Rattle.std.proofs.Common.{◌≡◌, ℕ, ◌+◌, ◌-◌, ◌<◌, List, ◌++◌, take, drop, replicate, length, slice_set, IsTrue, sym, ap, ap₂, ◌∙◌, subst, arith}
use Rattle.des_payment.specs.Texts.{IsNumber, IsPin, are_digits}
use Rattle.des_payment.specs.PinVerification.{pvv_text}
use Rattle.des_payment.proofs.FieldDigits.{AreDigits, AreDigits-values}
use Rattle.des_payment.proofs.PvvTexts.{are_digits-pvv_text}
use Rattle.des_payment.proofs.pin_verification.pvv_block.Goals as goal

-- the three parts of the text
module _ (account pin : List ℕ) (index : ℕ) (is_account : IsNumber 12 19 account) (small : index < 10)
    (is_pin : IsPin pin) where
  joined : {front middle back : List ℕ} (rest text : List ℕ)
      → front ≡ take (length account - 1 - (length account - 12)) (drop (length account - 12) account)
      → middle ≡ take 1 (slice_set rest 0 (index + 48)) → rest ≡ drop 11 (replicate 16 48) → back ≡ take 4 text
      → text ≡ pin
      → front ++ (middle ++ back) ≡ pvv_text account index pin
  joined rest text first second is_rest third is_text =
      let eleven : length account - 1 - (length account - 12) ≡ 11 = omega (arith, is_account.0) in
      ap₂ (λ (xs ys : List ℕ). xs ++ ys)
      (first ∙ ap (λ (n : ℕ). take n (drop (length account - 12) account)) eleven)
      (ap₂ (λ (xs ys : List ℕ). xs ++ ys)
      (second ∙ ap (λ (xs : List ℕ). take 1 (slice_set xs 0 (index + 48))) is_rest)
      (third ∙ ap (take 4) is_text))

  all_digits : {front middle back : List ℕ} (rest text : List ℕ)
      → front ≡ take (length account - 1 - (length account - 12)) (drop (length account - 12) account)
      → middle ≡ take 1 (slice_set rest 0 (index + 48)) → rest ≡ drop 11 (replicate 16 48) → back ≡ take 4 text
      → text ≡ pin
      → IsTrue (are_digits (front ++ (middle ++ back)))
  all_digits rest text first second is_rest third is_text =
      subst (λ (digits : List ℕ). IsTrue (are_digits digits))
      (sym (joined rest text first second is_rest third is_text))
      (are_digits-pvv_text account pin index is_account small is_pin)

pub to_values-requires : goal.to_values-requires
to_values-requires c =
    all_digits c.args.account.now c.args.pin.now c.args.index c.requires.account c.requires.index c.text.ensures.is_pin
    c.split_at_mut-front.result.1.now c.text.result.now c.copy_from_slice.ensures.after
    c.split_at_mut-back.ensures.front
    c.split_at_mut-front.ensures.back c.copy_from_slice-2.ensures.after c.text.ensures.text

pub block_of-requires-clause-digits : goal.block_of-requires-clause-digits
block_of-requires-clause-digits c =
    subst AreDigits (sym c.to_values.ensures)
    (AreDigits-values _
    (all_digits c.args.account.now c.args.pin.now c.args.index c.requires.account c.requires.index c.text.ensures.is_pin
    c.split_at_mut-front.result.1.now c.text.result.now c.copy_from_slice.ensures.after
    c.split_at_mut-back.ensures.front
    c.split_at_mut-front.ensures.back c.copy_from_slice-2.ensures.after c.text.ensures.text))
