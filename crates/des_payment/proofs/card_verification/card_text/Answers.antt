use Rattle.std.proofs.Common.{◌≡◌, List, ℕ, ◌++◌, length, drop, IsTrue, sym, ap, ap₂, ◌∙◌, subst}
use Rattle.des_payment.specs.Texts.{are_digits}
use Rattle.des_payment.proofs.CardTexts.{zeros, card_text-filled, are_digits-filled}
use Rattle.des_payment.proofs.card_verification.card_text.Goals as goal

-- the three texts, and the zeros after them
joined : (account : List ℕ) {expiry service rest others more a e s : List ℕ} → a ≡ account → e ≡ expiry → s ≡ service
    → rest ≡ drop 3 others → others ≡ drop 4 more → more ≡ drop (length account) zeros
    → a ++ (e ++ (s ++ rest)) ≡ account ++ (expiry ++ (service ++ drop 3 (drop 4 (drop (length account) zeros))))
joined account first second third last before begins =
    ap₂ (λ (x y : List ℕ). x ++ y) first
    (ap₂ (λ (x y : List ℕ). x ++ y) second
    (ap₂ (λ (x y : List ℕ). x ++ y) third (last ∙ ap (drop 3) (before ∙ ap (drop 4) begins))))

pub returns-clause-text : goal.returns-clause-text
returns-clause-text c =
    joined c.args.account.now c.copy_from_slice.ensures.after c.copy_from_slice-2.ensures.after
    c.copy_from_slice-3.ensures.after
    c.split_at_mut-front-3.ensures.back c.split_at_mut-front-2.ensures.back c.split_at_mut-front.ensures.back
    ∙ card_text-filled c.args.account.now c.args.expiry.now c.args.service.now c.requires.account c.requires.expiry
    c.requires.service

pub returns-clause-digits : goal.returns-clause-digits
returns-clause-digits c =
    subst (λ (text : List ℕ). IsTrue (are_digits text))
    (sym (joined c.args.account.now c.copy_from_slice.ensures.after c.copy_from_slice-2.ensures.after
    c.copy_from_slice-3.ensures.after
    c.split_at_mut-front-3.ensures.back c.split_at_mut-front-2.ensures.back c.split_at_mut-front.ensures.back))
    (are_digits-filled c.args.account.now c.args.expiry.now c.args.service.now c.requires.account c.requires.expiry
    c.requires.service)
