use Rattle.std.proofs.Common.{◌≡◌, ℕ, ◌-◌, ◌≤◌, List, ◌++◌, length, drop, replicate, sym, ap, ap₂, ◌∙◌, append_assoc, arith}
use Rattle.std.proofs.lemmas.List.{drop-replicate}
use Rattle.des_payment.proofs.emv.padded_digits.Goals as goal

-- the zeros that are left after both numbers
left : (n : ℕ) (first second third : List ℕ) → n ≤ 19 → first ≡ drop 16 (replicate 37 48) → second ≡ drop n first
    → third ≡ drop 2 second → third ≡ replicate (19 - n) 48
left n first second third few first_is second_is third_is =
    third_is ∙ ap (drop 2) (second_is ∙ ap (drop n) (first_is ∙ drop-replicate 16 37 48) ∙ drop-replicate n 21 48)
    ∙ drop-replicate 2 (21 - n) 48 ∙ ap (λ (k : ℕ). replicate k 48) (omega arith)

-- the zeros, both numbers, and the zeros after them
pub returns : goal.returns
returns c =
    let account : List ℕ = c.args.account.now in
    let sequence : List ℕ = c.args.sequence.now in
    let zeros : List ℕ = replicate (19 - length account) 48 in
    ap₂ (λ (front back : List ℕ). front ++ back) c.split_at_mut-rest.ensures.front
    (ap₂ (λ (first second : List ℕ). first ++ second) c.copy_from_slice.ensures.after
    (ap₂ (λ (second rest : List ℕ). second ++ rest) c.copy_from_slice-2.ensures.after
    (left (length account) _ _ _ (c.requires.account.1) c.split_at_mut-rest.ensures.back
    c.split_at_mut-front.ensures.back c.split_at_mut-front-2.ensures.back))
    ∙ sym (append_assoc account sequence zeros))
