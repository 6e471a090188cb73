-- The text of a card's data, filled with zeros.
use Rattle.std.proofs.Common.{◌≡◌, ℕ, ◌+◌, ◌-◌, List, ◌++◌, length, drop, take, replicate, IsTrue, true, refl, sym, ap, ◌∙◌, append_assoc, arith}
use Rattle.std.proofs.Math.Seq.{take-append-add}
use Rattle.std.proofs.lemmas.List.{length-append, drop-replicate, take-replicate}
use Rattle.std.proofs.lemmas.List.Elements.{All-append, All-drop, All-replicate}
use Rattle.std.proofs.lemmas.List.Sums.{AllPass-from_list_all, list_all-from_AllPass}
use Rattle.std.specs.Char.{is_ascii_digit}
use Rattle.des_payment.specs.Texts.{IsNumber, are_digits}
use Rattle.des_payment.specs.CardVerification.{card_text}

-- 32 zeros
abbrev pub zeros : List ℕ
zeros = replicate 32 48

module _ (account expiry service : List ℕ) (is_account : IsNumber 12 19 account) (is_expiry : IsNumber 4 4 expiry)
    (is_service : IsNumber 3 3 service) where
  -- the zeros after the data
  after : drop 3 (drop 4 (drop (length account) zeros)) ≡ replicate {A = ℕ} (25 - length account) 48
  after =
      ap (λ (xs : List ℕ). drop 3 (drop 4 xs)) (drop-replicate {X = ℕ} (length account) 32 48)
      ∙ ap (drop 3) (drop-replicate {X = ℕ} 4 (32 - length account) 48)
      ∙ drop-replicate {X = ℕ} 3 (32 - length account - 4) 48
      ∙ ap (λ (n : ℕ). replicate {A = ℕ} n 48) (omega arith)

  pub card_text-filled : account ++ (expiry ++ (service ++ drop 3 (drop 4 (drop (length account) zeros))))
      ≡ card_text account expiry service
  card_text-filled =
      let front : List ℕ = account ++ expiry ++ service in
      let count : length front ≡ length account + 7 =
      length-append (account ++ expiry) service
      ∙ omega (arith, length-append account expiry, is_expiry.0, is_expiry.1, is_service.0, is_service.1) in
      let whole : length front + (25 - length account) ≡ 32 = omega (arith, count, is_account.1) in
      ap (λ (xs : List ℕ). account ++ (expiry ++ (service ++ xs))) after
      ∙ sym (append_assoc account expiry (service ++ replicate (25 - length account) 48))
      ∙ sym (append_assoc (account ++ expiry) service (replicate (25 - length account) 48))
      ∙ ap (λ (xs : List ℕ). front ++ xs) (sym (take-replicate {X = ℕ} (25 - length account) 32 48 (omega arith)))
      ∙ sym (take-append-add front zeros (25 - length account))
      ∙ ap (λ (n : ℕ). take n (front ++ zeros)) whole

  pub are_digits-filled : IsTrue
      (are_digits (account ++ (expiry ++ (service ++ drop 3 (drop 4 (drop (length account) zeros))))))
  are_digits-filled =
      let IsDigit : ℕ → Type 0 = λ c. is_ascii_digit c ≡ true in
      list_all-from_AllPass is_ascii_digit _
      (All-append IsDigit account _ (AllPass-from_list_all is_ascii_digit account is_account.2)
      (All-append IsDigit expiry _ (AllPass-from_list_all is_ascii_digit expiry is_expiry.2)
      (All-append IsDigit service _ (AllPass-from_list_all is_ascii_digit service is_service.2)
      (All-drop IsDigit 3 _ (All-drop IsDigit 4 _
      (All-drop IsDigit (length account) _ (All-replicate IsDigit 32 48 refl)))))))
