use Rattle.std.proofs.Common.{◌≡◌, ℕ, ◌+◌, ◌-◌, List, ◌++◌, length, take, drop, replicate, IsTrue, sym, ap, ◌∙◌, subst, arith}
use Rattle.std.proofs.lemmas.List.{length-append}
use Rattle.des_payment.specs.Texts.{are_digits}
use Rattle.des_payment.specs.CardCryptograms.{rightmost}
use Rattle.des_payment.proofs.RightmostDigits.{rightmost-taken, are_digits-rightmost, are_digits-both}
use Rattle.des_payment.proofs.emv.rightmost_digits.Goals as goal

-- the part of the longer text that is copied
copied : (account sequence text part : List ℕ) → length sequence ≡ 2
    → text ≡ replicate 16 48 ++ (account ++ sequence) ++ replicate (19 - length account) 48
    → part ≡ take (length account + 18 - (length account + 2)) (drop (length account + 2) text)
    → part ≡ rightmost (account ++ sequence)
copied account sequence text part two padded is =
    let count : length account + 2 ≡ length (account ++ sequence) = omega (arith, length-append account sequence) in
    is
    ∙ ap (λ (xs : List ℕ). take (length account + 18 - (length account + 2)) (drop (length account + 2) xs)) padded
    ∙ rightmost-taken (account ++ sequence) (replicate (19 - length account) 48) (length account + 2)
    (length account + 18 - (length account + 2)) count (omega arith)

pub returns-clause-text : goal.returns-clause-text
returns-clause-text c =
    copied c.args.account.now c.args.sequence.now c.padded_digits-text.result c.copy_from_slice.new.self
    (omega (arith, c.requires.sequence.0, c.requires.sequence.1)) c.padded_digits-text.ensures
    c.copy_from_slice.ensures.after

pub returns-clause-digits : goal.returns-clause-digits
returns-clause-digits c =
    let account : List ℕ = c.args.account.now in
    let sequence : List ℕ = c.args.sequence.now in
    subst (λ (text : List ℕ). IsTrue (are_digits text))
    (sym (copied account sequence c.padded_digits-text.result c.copy_from_slice.new.self
    (omega (arith, c.requires.sequence.0, c.requires.sequence.1)) c.padded_digits-text.ensures
    c.copy_from_slice.ensures.after))
    (are_digits-rightmost (account ++ sequence)
    (are_digits-both account sequence c.requires.account.2 c.requires.sequence.2))
