-- The sixteen digits of which a PIN verification value is made.
use Rattle.std.proofs.Common.{◌≡◌, ℕ, ◌+◌, ◌-◌, ◌<◌, List, ◌∷◌, true, length, take, drop, IsTrue}
use Rattle.std.specs.Char.{is_ascii_digit}
use Rattle.std.proofs.lemmas.List.Elements.{All-append, All-cons, All-take, All-drop}
use Rattle.std.proofs.lemmas.List.Sums.{AllPass-from_list_all, list_all-from_AllPass}
use Rattle.des_payment.specs.Texts.{IsNumber, IsPin, are_digits}
use Rattle.des_payment.specs.PinVerification.{pvv_text}
use Rattle.des_payment.proofs.TextDigits.{ascii_digit-value}

module _ (account pin : List ℕ) (index : ℕ) (is_account : IsNumber 12 19 account) (small : index < 10)
    (is_pin : IsPin pin) where
  pub are_digits-pvv_text : IsTrue (are_digits (pvv_text account index pin))
  are_digits-pvv_text =
      let IsDigit : ℕ → Type 0 = λ c. is_ascii_digit c ≡ true in
      let front : List ℕ = drop (length account - 12) account in
      list_all-from_AllPass is_ascii_digit (pvv_text account index pin)
      (All-append IsDigit (take 11 front) ((index + 48) ∷ take 4 pin)
      (All-take IsDigit 11 front
      (All-drop IsDigit (length account - 12) account
      (AllPass-from_list_all is_ascii_digit account is_account.2)))
      (All-cons IsDigit (index + 48) (take 4 pin) (ascii_digit-value index small)
      (All-take IsDigit 4 pin (AllPass-from_list_all is_ascii_digit pin is_pin.2))))
