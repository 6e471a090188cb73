-- The sixteen rightmost digits of a number with zeros at its left.
use Rattle.std.proofs.Common.{◌≡◌, ℕ, ◌+◌, List, ◌++◌, length, take, drop, replicate, IsTrue, true, refl, sym, ap, ◌∙◌, arith}
use Rattle.std.proofs.Math.Seq.{take-append_seam}
use Rattle.std.proofs.lemmas.List.{length-append, length-drop, drop-append-le}
use Rattle.std.proofs.lemmas.List.Elements.{All-append, All-drop, All-replicate}
use Rattle.std.proofs.lemmas.List.Sums.{AllPass-from_list_all, list_all-from_AllPass}
use Rattle.std.specs.Char.{is_ascii_digit}
use Rattle.des_payment.specs.Texts.{are_digits}
use Rattle.des_payment.specs.CardCryptograms.{rightmost}

-- sixteen zeros
abbrev zeros : List ℕ
zeros = replicate 16 48

-- they stand in a longer text after as many characters as the number has
pub rightmost-taken : (digits rest : List ℕ) (n m : ℕ) → n ≡ length digits → m ≡ 16
    → take m (drop n ((zeros ++ digits) ++ rest)) ≡ rightmost digits
rightmost-taken digits rest n m is sixteen =
    let whole : length (zeros ++ digits) ≡ 16 + length digits = length-append zeros digits in
    let part : List ℕ = drop (length digits) (zeros ++ digits) in
    let size : length part ≡ 16 = omega (arith, whole, length-drop (length digits) (zeros ++ digits)) in
    ap (λ (k : ℕ). take m (drop k ((zeros ++ digits) ++ rest))) is
    ∙ ap (take m) (drop-append-le (length digits) (zeros ++ digits) rest (omega (arith, whole)))
    ∙ ap (λ (k : ℕ). take k (part ++ rest)) (sixteen ∙ sym size)
    ∙ take-append_seam part rest

pub are_digits-rightmost : (digits : List ℕ) → IsTrue (are_digits digits) → IsTrue (are_digits (rightmost digits))
are_digits-rightmost digits all =
    let IsDigit : ℕ → Type 0 = λ c. is_ascii_digit c ≡ true in
    list_all-from_AllPass is_ascii_digit (rightmost digits)
    (All-drop IsDigit (length digits) (zeros ++ digits)
    (All-append IsDigit zeros digits (All-replicate IsDigit 16 48 refl)
    (AllPass-from_list_all is_ascii_digit digits all)))

pub are_digits-both : (account sequence : List ℕ) → IsTrue (are_digits account) → IsTrue (are_digits sequence)
    → IsTrue (are_digits (account ++ sequence))
are_digits-both account sequence first second =
    let IsDigit : ℕ → Type 0 = λ c. is_ascii_digit c ≡ true in
    list_all-from_AllPass is_ascii_digit (account ++ sequence)
    (All-append IsDigit account sequence (AllPass-from_list_all is_ascii_digit account first)
    (AllPass-from_list_all is_ascii_digit sequence second))
