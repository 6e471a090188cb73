-- Digits that are made of two texts, place by place.
use Rattle.std.proofs.Common.{◌≡◌, ℕ, ◌+◌, ◌-◌, ◌%◌, ◌<◌, ◌≤◌, List, length, take, get_or, nat_lt, true, IsTrue, refl, sym, ap, ap₂, ◌∙◌, arith}
use Rattle.std.specs.List.{list_all}
use Rattle.std.specs.Simd.Lanes.{zip2}
use Rattle.std.proofs.lemmas.Bool.{lt-ltb}
use Rattle.std.proofs.lemmas.Simd.{length-zip2, get_or-zip2}
use Rattle.std.proofs.lemmas.Grind.{same_number_lists}
use Rattle.std.proofs.lemmas.List.{get_or-map, get_or-take, length-map, length-take-le}
use Rattle.std.proofs.lemmas.List.Elements.{All-from_get_or}
use Rattle.std.proofs.lemmas.List.Sums.{list_all-from_AllPass}
use Rattle.des_payment.specs.Texts.{IsPin, values, text_of}
use Rattle.des_payment.specs.PinVerification.{offset_between, sum_of}
use Rattle.des_payment.proofs.TextDigits.{digit_at}

-- the first n digits are those of a function of the digits of two lists
zipped : (f : ℕ → ℕ → ℕ) (xs ys digits : List ℕ) (n : ℕ) → length xs ≡ n → length ys ≡ n → n ≤ length digits
    → ((k : ℕ) → k < n → get_or digits k 0 ≡ f (get_or xs k 0) (get_or ys k 0)) → take n digits ≡ zip2 f xs ys
zipped f xs ys digits n first second fits made =
    let size : length (take n digits) ≡ n = length-take-le n digits fits in
    same_number_lists (take n digits) (zip2 f xs ys)
    (omega (arith, size, first, length-zip2 f xs ys (omega arith)))
    (λ k within.
    let below : k < n = omega arith in
    get_or-take n digits k 0 below ∙ made k below
    ∙ sym (get_or-zip2 f xs ys k 0 0 0 (omega arith) (omega arith)))

value_at : (text : List ℕ) (k : ℕ) → k < length text → get_or (values text) k 0 ≡ get_or text k 0 - 48
value_at text k within = get_or-map (λ (c : ℕ). c - 48) text k 0 0 within

module _ (natural other digits : List ℕ) (is_natural : IsPin natural) (is_other : IsPin other)
    (same : length natural ≡ length other) (fits : length other ≤ length digits) where
  long : (text : List ℕ) → length text ≡ length other → length (values text) ≡ length other
  long text is = length-map text (λ (c : ℕ). c - 48) ∙ is

  pub offset-made : ((k : ℕ) → k < length other → get_or digits k 0 ≡ (get_or other k 0 + 10 - get_or natural k 0) % 10)
      → text_of (take (length other) digits) ≡ offset_between natural other
  offset-made made =
      ap text_of
      (zipped (λ digit other. (digit + 10 - other) % 10) (values other) (values natural) digits (length other)
      (long other refl) (long natural same) fits
      (λ k within.
      let there : k < length natural = omega arith in
      let first = digit_at natural k is_natural.2 there in
      let second = digit_at other k is_other.2 within in
      let first_value = value_at natural k there in
      let second_value = value_at other k within in
      made k within
      ∙ ap (λ (x : ℕ). x % 10)
      (let values_too : get_or other k 0 + 10 - get_or natural k 0
      ≡ get_or (values other) k 0 + 10 - get_or (values natural) k 0 =
      omega (arith, first_value, second_value, first.0, second.0) in values_too)))

  pub sum-made : ((k : ℕ) → k < length other
      → get_or digits k 0 ≡ (get_or natural k 0 - 48 + (get_or other k 0 - 48)) % 10)
      → text_of (take (length other) digits) ≡ sum_of natural other
  sum-made made =
      ap text_of (zipped (λ digit other. (digit + other) % 10) (values natural) (values other) digits (length other)
      (long natural same) (long other refl) fits
      (λ k within.
      let there : k < length natural = omega arith in
      made k within
      ∙ ap₂ (λ (x y : ℕ). (x + y) % 10) (sym (value_at natural k there)) (sym (value_at other k within))))

-- digits that are below ten at each place are decimal
pub decimal-made : (digits : List ℕ) (n : ℕ) → n ≤ length digits → ((k : ℕ) → k < n → get_or digits k 0 < 10)
    → IsTrue (list_all (λ digit. nat_lt digit 10) (take n digits))
decimal-made digits n fits small =
    let size : length (take n digits) ≡ n = length-take-le n digits fits in
    list_all-from_AllPass (λ (digit : ℕ). nat_lt digit 10) (take n digits)
    (All-from_get_or (λ (digit : ℕ). nat_lt digit 10 ≡ true) (take n digits) 0 (λ k within.
    let below : k < n = omega arith in
    let is : get_or (take n digits) k 0 ≡ get_or digits k 0 = get_or-take n digits k 0 below in
    let digit : get_or digits k 0 < 10 = small k below in
    lt-ltb (get_or (take n digits) k 0) 10 (omega arith)))
