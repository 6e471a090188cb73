-- The digits of two numbers, after a zero if they are odd in number, as a part of a longer text.
use Rattle.std.proofs.Common.{◌≡◌, ℕ, ◌+◌, ◌-◌, ◌%◌, ◌≤◌, List, ◌++◌, length, take, drop, replicate, IsTrue, true, refl, sym, ap, ◌∙◌, arith}
use Rattle.std.proofs.Math.Seq.{take-append_seam}
use Rattle.std.proofs.lemmas.List.{length-append, length-replicate, drop-append-le, drop-replicate}
use Rattle.std.proofs.lemmas.List.Elements.{All-append, All-replicate}
use Rattle.std.proofs.lemmas.List.Sums.{AllPass-from_list_all, list_all-from_AllPass}
use Rattle.std.specs.Char.{is_ascii_digit}
use Rattle.des_payment.specs.Texts.{are_digits}

-- sixteen zeros
abbrev zeros : List ℕ
zeros = replicate 16 48

abbrev pub even_digits : List ℕ → List ℕ
even_digits digits = replicate (length digits % 2) 48 ++ digits

-- the last of the zeros before the digits is taken with them if they are odd in number
pub even_digits-taken : (digits rest : List ℕ) (n m : ℕ) → n ≡ 16 - length digits % 2
    → m ≡ length digits + length digits % 2 → take m (drop n ((zeros ++ digits) ++ rest)) ≡ even_digits digits
even_digits-taken digits rest n m start count =
    let odd : ℕ = length digits % 2 in
    let few : n ≤ 16 = omega arith in
    let whole : length (zeros ++ digits) ≡ 16 + length digits = length-append zeros digits in
    let before : drop n (zeros ++ digits) ≡ even_digits digits =
    drop-append-le n zeros digits few
    ∙ ap (λ (xs : List ℕ). xs ++ digits)
    (drop-replicate n 16 48 ∙ ap (λ (k : ℕ). replicate k 48) (omega arith)) in
    let size : length (even_digits digits) ≡ m =
    length-append (replicate odd 48) digits ∙ omega (arith, length-replicate {A = ℕ} odd 48) in
    ap (take m) (drop-append-le n (zeros ++ digits) rest (omega (arith, whole))
    ∙ ap (λ (xs : List ℕ). xs ++ rest) before)
    ∙ ap (λ (k : ℕ). take k (even_digits digits ++ rest)) (sym size)
    ∙ take-append_seam (even_digits digits) rest

-- zeros before digits and after them are digits
pub are_digits-padded : (digits : List ℕ) (n m : ℕ) → IsTrue (are_digits digits)
    → IsTrue (are_digits ((replicate n 48 ++ digits) ++ replicate m 48))
are_digits-padded digits n m all =
    let IsDigit : ℕ → Type 0 = λ c. is_ascii_digit c ≡ true in
    list_all-from_AllPass is_ascii_digit _
    (All-append IsDigit (replicate n 48 ++ digits) _
    (All-append IsDigit (replicate n 48) digits (All-replicate IsDigit n 48 refl)
    (AllPass-from_list_all is_ascii_digit digits all))
    (All-replicate IsDigit m 48 refl))

pub are_digits-even : (digits : List ℕ) → IsTrue (are_digits digits) → IsTrue (are_digits (even_digits digits))
are_digits-even digits all =
    let IsDigit : ℕ → Type 0 = λ c. is_ascii_digit c ≡ true in
    list_all-from_AllPass is_ascii_digit _
    (All-append IsDigit (replicate (length digits % 2) 48) digits (All-replicate IsDigit (length digits % 2) 48 refl)
    (AllPass-from_list_all is_ascii_digit digits all))
