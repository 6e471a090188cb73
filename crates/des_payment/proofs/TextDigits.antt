-- Texts of digits, and the values of digits, place by place.
use Rattle.std.proofs.Common.{◌≡◌, ℕ, ◌+◌, ◌-◌, ◌<◌, ◌≤◌, List, [], ◌∷◌, ◌++◌, true, length, map, take, drop, get_or, nat_lt, IsTrue, refl, ap, ap₂, ◌∙◌, arith}
use Rattle.std.specs.List.{list_all}
use Rattle.std.specs.Char.{is_ascii_digit}
use Rattle.std.proofs.lemmas.Bool.{and_parts, ltb-true, lt-ltb}
use Rattle.std.specs.Cmp.Derive.{both_true}
use Rattle.std.proofs.lemmas.Bool.Decides.{nat_tests}
use Rattle.std.proofs.lemmas.List.{get_or-append_right, get_or-drop, get_or-map, length-map, length-take-le}
use Rattle.std.proofs.lemmas.List.Sums.{AllPass-from_list_all, list_all-from_AllPass}
use Rattle.std.proofs.lemmas.List.Elements.{All-from_get_or, All-take, All-drop}
use Rattle.des_payment.specs.Texts.{are_digits, values, text_of}

-- the element at an index, in a list of which a map has gone over the elements before it
pub get_or-mapped_front : (f : ℕ → ℕ) (xs ys : List ℕ) (i : ℕ) → i < length xs → ys ≡ map f (take i xs) ++ drop i xs
    → get_or ys i 0 ≡ get_or xs i 0
get_or-mapped_front f xs ys i within same =
    ap (λ (zs : List ℕ). get_or zs i 0) same
    ∙ get_or-append_right (map f (take i xs)) (drop i xs) i i 0
    (length-map (take i xs) f ∙ length-take-le i xs (omega arith)) (omega arith)
    ∙ get_or-drop i xs (i - i) 0
    ∙ ap (λ (k : ℕ). get_or xs k 0) (omega arith)

-- each character of a text of digits is one
ascii_digit-bounds : (c : ℕ) → is_ascii_digit c ≡ true → (48 ≤ c) × (c ≤ 57)
ascii_digit-bounds c is = grind (arith, nat_tests)

pub digit_at : (text : List ℕ) (i : ℕ) → IsTrue (are_digits text) → i < length text
    → (48 ≤ get_or text i 0) × (get_or text i 0 ≤ 57)
digit_at text i all within =
    ascii_digit-bounds (get_or text i 0) (AllPass-from_list_all is_ascii_digit text all i 0 within)

-- each value that is tested to be below a bound is below it
pub below_at : (bound : ℕ) (digits : List ℕ) (i : ℕ) → IsTrue (list_all (λ digit. nat_lt digit bound) digits)
    → i < length digits → get_or digits i 0 < bound
below_at bound digits i all within =
    ltb-true (get_or digits i 0) bound (AllPass-from_list_all (λ (digit : ℕ). nat_lt digit bound) digits all i 0 within)

-- the text of digits is one of digits
pub ascii_digit-value : (digit : ℕ) → digit < 10 → is_ascii_digit (digit + 48) ≡ true
ascii_digit-value digit small = grind (arith, nat_tests)

pub are_digits-text_of : (digits : List ℕ) → IsTrue (list_all (λ digit. nat_lt digit 10) digits)
    → IsTrue (are_digits (text_of digits))
are_digits-text_of digits small =
    list_all-from_AllPass is_ascii_digit (text_of digits)
    (All-from_get_or (λ (c : ℕ). is_ascii_digit c ≡ true) (text_of digits) 0 (λ i within.
    let inside : i < length digits = omega (arith, length-map digits (λ (digit : ℕ). digit + 48)) in
    rw (get_or-map (λ (digit : ℕ). digit + 48) digits i 0 0 inside)
    (ascii_digit-value (get_or digits i 0) (below_at 10 digits i small inside))))

-- some of the characters of a text of digits
pub are_digits-part : (text : List ℕ) (from n : ℕ) → IsTrue (are_digits text)
    → IsTrue (are_digits (take n (drop from text)))
are_digits-part text from n all =
    let IsDigit : ℕ → Type 0 = λ c. is_ascii_digit c ≡ true in
    list_all-from_AllPass is_ascii_digit (take n (drop from text))
    (All-take IsDigit n (drop from text) (All-drop IsDigit from text (AllPass-from_list_all is_ascii_digit text all)))

-- the values of digits are digits, and each text of digits is the text of its values
pub decimal-values : (text : List ℕ) → IsTrue (are_digits text)
    → list_all (λ digit. nat_lt digit 10) (values text) ≡ true
decimal-values [] all = refl
decimal-values (c ∷ text) all =
    let parts = and_parts (is_ascii_digit c) (are_digits text) all in
    let bounds = ascii_digit-bounds c parts.0 in
    both_true (lt-ltb (c - 48) 10 (omega arith)) (decimal-values text parts.1)

pub text_of-values : (text : List ℕ) → IsTrue (are_digits text) → text_of (values text) ≡ text
text_of-values [] all = refl
text_of-values (c ∷ text) all =
    let parts = and_parts (is_ascii_digit c) (are_digits text) all in
    let bounds = ascii_digit-bounds c parts.0 in
    let same : c - 48 + 48 ≡ c = omega arith in
    ap₂ (λ (x : ℕ) (xs : List ℕ). x ∷ xs) same (text_of-values text parts.1)

pub values-text_of : (digits : List ℕ) → values (text_of digits) ≡ digits
values-text_of [] = refl
values-text_of (digit ∷ digits) =
    let same : digit + 48 - 48 ≡ digit = omega arith in
    ap₂ (λ (x : ℕ) (xs : List ℕ). x ∷ xs) same (values-text_of digits)
