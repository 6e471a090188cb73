-- The last digits of a list, with zeros at the left if it has fewer.
use Rattle.std.proofs.Common.{◌≡◌, ℕ, ◌+◌, ◌-◌, inl, inr, List, ◌++◌, length, take, drop, replicate, sym, ap, ap₂, ◌∙◌, append_assoc, arith}
use Rattle.std.proofs.Math.Seq.{drop-append-add}
use Rattle.std.proofs.lemmas.Bool.{cases_lt}
use Rattle.std.proofs.lemmas.List.{drop-append-le, drop-map, drop-replicate, take-replicate, length-map, length-drop, length-replicate, replicate-append-replicate}
use Rattle.des_payment.specs.Texts.{values}
use Rattle.des_payment.specs.PinBlocks.{last_digits}

-- they are as many zeros as lack, and the digits from a place on
pub last_digits-parts : (count : ℕ) (digits : List ℕ)
    → last_digits count digits ≡ replicate (count - length digits) 0 ++ drop (length digits - count) digits
last_digits-parts count digits =
    let zeros : List ℕ = replicate count 0 in
    let as_many : length zeros ≡ count = length-replicate {A = ℕ} count 0 in
    elim (cases_lt count (length digits)) [
      | inl more ↦
          let none : count - length digits ≡ 0 = omega arith in
          let place : length digits ≡ length zeros + (length digits - count) = omega (arith, as_many) in
          ap (λ (n : ℕ). drop n (zeros ++ digits)) place
          ∙ drop-append-add zeros digits (length digits - count)
          ∙ ap (λ (n : ℕ). replicate n 0 ++ drop (length digits - count) digits) (sym none)
      | inr few ↦
          let none : length digits - count ≡ 0 = omega arith in
          drop-append-le (length digits) zeros digits (omega (arith, as_many))
          ∙ ap (λ (xs : List ℕ). xs ++ digits) (drop-replicate {X = ℕ} (length digits) count 0)
          ∙ ap (λ (n : ℕ). replicate (count - length digits) 0 ++ drop n digits) (sym none)
    ]

-- zeros, and the last digits of a text, are an account field
pub account_field-made : (text last : List ℕ) → last ≡ drop (length text - 12) text
    → take (16 - length last) (replicate 16 0) ++ values last ≡ replicate 4 0 ++ last_digits 12 (values text)
account_field-made text last is =
    let n : ℕ = length text in
    let digits : List ℕ = values text in
    let long : length digits ≡ n = length-map text (λ (c : ℕ). c - 48) in
    let size : length last ≡ n - (n - 12) = ap length is ∙ length-drop (n - 12) text in
    let back : values last ≡ drop (n - 12) digits =
    ap values is ∙ sym (drop-map (λ (c : ℕ). c - 48) (n - 12) text) in
    let count : 16 - length last ≡ 4 + (12 - n) = omega (arith, size) in
    let parts : last_digits 12 digits ≡ replicate (12 - n) 0 ++ drop (n - 12) digits =
    last_digits-parts 12 digits
    ∙ ap (λ (k : ℕ). replicate (12 - k) 0 ++ drop (k - 12) digits) long in
    ap₂ (λ (xs ys : List ℕ). xs ++ ys)
    (take-replicate {X = ℕ} (16 - length last) 16 0 (omega arith) ∙ ap (λ (k : ℕ). replicate k 0) count) back
    ∙ ap (λ (xs : List ℕ). xs ++ drop (n - 12) digits) (sym (replicate-append-replicate {A = ℕ} 4 (12 - n) 0))
    ∙ append_assoc (replicate 4 0) (replicate (12 - n) 0) (drop (n - 12) digits)
    ∙ ap (λ (xs : List ℕ). replicate 4 0 ++ xs) (sym parts)
