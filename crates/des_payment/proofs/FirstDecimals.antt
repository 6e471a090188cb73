-- Decimals that are found in a list, and written one after another.
use Rattle.std.proofs.Common.{◌≡◌, ℕ, suc, ◌+◌, ◌-◌, ◌<◌, ◌≤◌, ◌==◌, if◌then◌else◌, cond, Bool, true, false, inl, inr, List, [], ◌∷◌, ◌++◌, length, map, take, get_or, refl, sym, ap, ◌∙◌, append_assoc, arith, eq-eqb}
use Rattle.std.specs.List.{All, filter, list_all}
use Rattle.std.proofs.lemmas.Bool.{lt-ltb, ne_eqb, cases_lt}
use Rattle.std.proofs.lemmas.Grind.{same_number_lists}
use Rattle.std.proofs.lemmas.List.{append-nil, length-append, length-map, length-take-le, get_or-take, get_or-append-add, get_or_append_left, map-append}
use Rattle.std.proofs.lemmas.List.Elements.{filter_more, filter_passes, All-filter, All-map, All-append, All-take}
use Rattle.std.proofs.lemmas.List.Sums.{list_all-from_AllPass}
use Rattle.des_payment.specs.CardVerification.{is_decimal, is_letter, decimals_first}

-- the first of a list are written, as many as fit, and counted
pub record IsWritten (count : ℕ) (value xs : List ℕ) : Type 0 where
  pub count_is : count ≡ length xs
  pub written : (k : ℕ) → k < length value → k < count → get_or value k 0 ≡ get_or xs k 0

-- the same under equal names
moved : {count other : ℕ} {value xs ys : List ℕ} → IsWritten count value xs → other ≡ count → ys ≡ xs
    → IsWritten other value ys
moved is same same_list = record {
  count_is = same ∙ is.count_is ∙ ap length (sym same_list);
  written = λ k inside below.
      is.written k inside (omega (arith, same)) ∙ ap (λ (zs : List ℕ). get_or zs k 0) (sym same_list);
}

-- a digit is written after them: it counts if it is chosen
module _ (count : ℕ) (value after xs : List ℕ) (digit : ℕ) (is : IsWritten count value xs)
    (long : length after ≡ length value)
    (writes : (k : ℕ) → k < length value → get_or after k 0 ≡ (if k == count then digit else get_or value k 0)) where
  kept : (k : ℕ) → k < length value → k < count → get_or after k 0 ≡ get_or value k 0
  kept k inside below =
      let other : (k == count) ≡ false = ne_eqb k count (λ same. omega arith) in
      writes k inside ∙ ap (λ (b : Bool). if b then digit else get_or value k 0) other

  last : (k : ℕ) → k < length value → k ≡ count → get_or after k 0 ≡ digit
  last k inside same =
      writes k inside ∙ ap (λ (b : Bool). if b then digit else get_or value k 0) (eq-eqb k count same)

  at_end : (k : ℕ) → k ≡ count → get_or (xs ++ digit ∷ []) k 0 ≡ digit
  at_end k same =
      let place : k ≡ length xs + 0 = omega (arith, is.count_is) in
      ap (λ (n : ℕ). get_or (xs ++ digit ∷ []) n 0) place ∙ get_or-append-add xs (digit ∷ []) 0 0

  passed : IsWritten count after xs
  passed = record {
    count_is = is.count_is;
    written = λ k inside below.
        let place : k < length value = omega (arith, long) in kept k place below ∙ is.written k place below;
  }

  more : (k : ℕ) → k < length value → k < count + 1 → get_or after k 0 ≡ get_or (xs ++ digit ∷ []) k 0
  more k inside below =
      elim (cases_lt k count) [
        | inl less ↦
            kept k inside less ∙ is.written k inside less
            ∙ sym (get_or_append_left xs (digit ∷ []) 0 k (omega (arith, is.count_is)))
        | inr least ↦ let same : k ≡ count = omega arith in last k inside same ∙ sym (at_end k same)
      ]

  taken : IsWritten (count + 1) after (xs ++ digit ∷ [])
  taken = record {
    count_is = omega (arith, is.count_is, length-append xs (digit ∷ []));
    written = λ k inside below. more k (omega (arith, long)) below;
  }

  pub IsWritten-more : (chosen : Bool) (others : List ℕ) (next : ℕ) → next ≡ count + cond chosen 1 0
      → others ≡ xs ++ cond chosen (digit ∷ []) []
      → IsWritten next after others
  IsWritten-more true others next counted same = moved taken counted same
  IsWritten-more false others next counted same =
      moved passed (counted ∙ omega arith) (same ∙ append-nil xs)

-- all digits of a list are found, so the first of them are written
pub IsWritten-all : (count : ℕ) (value xs : List ℕ) → IsWritten count value xs → length value ≤ length xs
    → value ≡ take (length value) xs
IsWritten-all count value xs is inside =
    same_number_lists value (take (length value) xs) (sym (length-take-le (length value) xs inside))
    (λ k within.
    is.written k within (omega (arith, is.count_is))
    ∙ sym (get_or-take (length value) xs k 0 within))

-- one digit more of a list: found if it passes the test
pub found-decimal : (digits : List ℕ) (i : ℕ) → i < length digits
    → filter is_decimal (take (i + 1) digits)
    ≡ filter is_decimal (take i digits) ++ cond (is_decimal (get_or digits i 0)) (get_or digits i 0 ∷ []) []
found-decimal digits i within = filter_more is_decimal digits i 0 within

mapped : (chosen : Bool) (digit written : ℕ) → (chosen ≡ true → written ≡ digit - 10)
    → map (λ digit. digit - 10) (cond chosen (digit ∷ []) []) ≡ cond chosen (written ∷ []) []
mapped true digit written is = ap (λ (x : ℕ). x ∷ []) (sym (is refl))
mapped false digit written is = refl

pub found-letter : (front digits : List ℕ) (i written : ℕ) → i < length digits
    → (is_letter (get_or digits i 0) ≡ true → written ≡ get_or digits i 0 - 10)
    → front ++ map (λ digit. digit - 10) (filter is_letter (take (i + 1) digits))
    ≡ (front ++ map (λ digit. digit - 10) (filter is_letter (take i digits)))
    ++ cond (is_letter (get_or digits i 0)) (written ∷ []) []
found-letter front digits i written within is =
    let digit : ℕ = get_or digits i 0 in
    let less : List ℕ → List ℕ = map (λ digit. digit - 10) in
    ap (λ (xs : List ℕ). front ++ less xs) (filter_more is_letter digits i 0 within)
    ∙ ap (λ (xs : List ℕ). front ++ xs)
    (map-append (λ digit. digit - 10) (filter is_letter (take i digits)) (cond (is_letter digit) (digit ∷ []) []))
    ∙ ap (λ (xs : List ℕ). front ++ (less (filter is_letter (take i digits)) ++ xs))
    (mapped (is_letter digit) digit written is)
    ∙ sym (append_assoc front (less (filter is_letter (take i digits)))
    (cond (is_letter digit) (written ∷ []) []))

-- each digit is found once
each_once : (digit : ℕ) (digits : List ℕ) (decimal : Bool) → is_decimal digit ≡ decimal
    → length (filter is_decimal digits) + length (filter is_letter digits) ≡ length digits
    → length (filter is_decimal (digit ∷ digits)) + length (filter is_letter (digit ∷ digits)) ≡ suc (length digits)
each_once digit digits true is rest = rw is (omega arith)
each_once digit digits false is rest = rw is (omega arith)

length-filters : (digits : List ℕ)
    → length (filter is_decimal digits) + length (filter is_letter digits) ≡ length digits
length-filters [] = refl
length-filters (digit ∷ digits) = each_once digit digits (is_decimal digit) refl (length-filters digits)

pub length-decimals_first : (digits : List ℕ) → length (decimals_first digits) ≡ length digits
length-decimals_first digits =
    length-append (filter is_decimal digits) (map (λ digit. digit - 10) (filter is_letter digits))
    ∙ ap (λ (n : ℕ). length (filter is_decimal digits) + n) (length-map (filter is_letter digits) (λ digit. digit - 10))
    ∙ length-filters digits

-- digits below sixteen, the decimals first, are digits below ten, and so are some of them
pub are_decimal : (n : ℕ) (digits : List ℕ) → All (λ digit. digit < 16) digits
    → list_all is_decimal (take n (decimals_first digits)) ≡ true
are_decimal n digits small =
    let IsDecimal : ℕ → Type 0 = λ digit. is_decimal digit ≡ true in
    let less : ℕ → ℕ = λ digit. digit - 10 in
    let letters : All (λ digit. IsDecimal (less digit)) digits =
    λ i d within. let below = small i d within in lt-ltb (less (get_or digits i d)) 10 (omega arith) in
    list_all-from_AllPass is_decimal (take n (decimals_first digits))
    (All-take IsDecimal n (decimals_first digits)
    (All-append IsDecimal (filter is_decimal digits) (map less (filter is_letter digits))
    (filter_passes is_decimal digits)
    (All-map IsDecimal less (filter is_letter digits)
    (All-filter is_letter (λ digit. IsDecimal (less digit)) digits letters))))
