-- The digits of a PIN that are picked from a PIN field: digits of it, or zeros.
use Rattle.std.proofs.Common.{◌≡◌, ℕ, ◌+◌, ◌%◌, ◌<◌, ◌≤◌, List, Bool, true, false, ◌&&◌, if◌then◌else◌, nat_lt, length, take, drop, get_or, slice_index, IsTrue, inl, inr, refl, sym, ap, ◌∙◌, subst, arith}
use Rattle.std.specs.List.{list_all}
use Rattle.std.proofs.lemmas.Bool.{lt-ltb, cases_lt}
use Rattle.std.proofs.lemmas.Bool.Decides.{nat_tests}
use Rattle.std.proofs.lemmas.Grind.{same_number_lists}
use Rattle.std.proofs.lemmas.List.{get_or-take, get_or-drop, length-take-le, length-drop}
use Rattle.std.proofs.lemmas.List.Sums.{list_all-from_AllPass}
use Rattle.std.proofs.lemmas.List.Elements.{All-from_get_or}
use Rattle.des_payment.specs.Texts.{text_of}
use Rattle.des_payment.specs.PinBlocks.{pin_digits}
use Rattle.des_payment.proofs.TextDigits.{below_at}

-- what is picked at a place
abbrev pub picked_at : Bool → List ℕ → ℕ → ℕ → ℕ
picked_at right field count k = if right && nat_lt k count then get_or field (k + 2) 0 else 0

abbrev pub IsPicked : Bool → List ℕ → ℕ → List ℕ → Type 0
IsPicked right field count picked =
    (length picked ≡ 12) × ((k : ℕ) → k < 12 → get_or picked k 0 ≡ picked_at right field count k)

module _ (field : List ℕ) (long : length field ≡ 16) (few : slice_index field 1 ≤ 12) where
  count : ℕ
  count = slice_index field 1

  length-pin_digits : length (pin_digits field) ≡ slice_index field 1
  length-pin_digits = length-take-le (slice_index field 1) (drop 2 field) (omega (arith, length-drop 2 field))

  picked-digit : (k : ℕ) → k < slice_index field 1
      → picked_at true field (slice_index field 1) k ≡ get_or (pin_digits field) k 0
  picked-digit k within =
      rw (lt-ltb k (slice_index field 1) within)
      (ap (λ (n : ℕ). get_or field n 0) (omega arith)
      ∙ sym (get_or-take (slice_index field 1) (drop 2 field) k 0 within ∙ get_or-drop 2 field k 0))

  picked-zero : (k : ℕ) → slice_index field 1 ≤ k → picked_at true field (slice_index field 1) k ≡ 0
  picked-zero k past =
      let no : nat_lt k (slice_index field 1) ≡ false = grind (arith, nat_tests) in rw no refl

  -- they are those of the PIN
  pub picked-are : (picked : List ℕ) → IsPicked true field (slice_index field 1) picked
      → take (slice_index field 1) picked ≡ pin_digits field
  picked-are picked is =
      let taken : length (take (slice_index field 1) picked) ≡ slice_index field 1 =
      length-take-le (slice_index field 1) picked (omega (arith, is.0)) in
      same_number_lists (take (slice_index field 1) picked) (pin_digits field) (taken ∙ sym length-pin_digits)
      (λ k within.
      let below : k < slice_index field 1 = omega arith in
      get_or-take (slice_index field 1) picked k 0 below ∙ is.1 k (omega arith) ∙ picked-digit k below)

  picked-small : (k : ℕ) → IsTrue (list_all (λ digit. nat_lt digit 10) (pin_digits field))
      → picked_at true field (slice_index field 1) k < 10
  picked-small k digits =
      elim (cases_lt k (slice_index field 1)) [
        | inl within ↦
            rw (picked-digit k within) (below_at 10 (pin_digits field) k digits (omega (arith, length-pin_digits)))
        | inr past ↦ rw (picked-zero k past) (omega arith)
      ]

small : (right : Bool) (field : List ℕ) (count k : ℕ) → length field ≡ 16
    → count ≡ (if right then slice_index field 1 else 4) → (IsTrue right → slice_index field 1 ≤ 12)
    → (IsTrue right → IsTrue (list_all (λ digit. nat_lt digit 10) (pin_digits field)))
    → picked_at right field count k < 10
small true field count k long is_count few digits =
    subst (λ (n : ℕ). picked_at true field n k < 10) (sym is_count)
    (picked-small field long (few refl) k (digits refl))
small false field count k long is_count few digits = omega arith

digit-kept : (is : Bool) (digit : ℕ) → (if is then digit else 0) < 10
    → (if is then digit % 16 else 0) ≡ (if is then digit else 0)
digit-kept true digit small = omega (arith, small)
digit-kept false digit small = refl

taken-at : (right : Bool) (field : List ℕ) (count taken k : ℕ) → length field ≡ 16
    → count ≡ (if right then slice_index field 1 else 4) → taken ≡ (if right then slice_index field 1 else 0)
    → (IsTrue right → slice_index field 1 ≤ 12)
    → (IsTrue right → IsTrue (list_all (λ digit. nat_lt digit 10) (pin_digits field)))
    → (if nat_lt k taken then get_or field (k + 2) 0 % 16 else 0) ≡ picked_at right field count k
taken-at true field count taken k long is_count is_taken few digits =
    ap (λ n. if nat_lt k n then get_or field (k + 2) 0 % 16 else 0) is_taken
    ∙ digit-kept (nat_lt k (slice_index field 1)) (get_or field (k + 2) 0)
    (picked-small field long (few refl) k (digits refl))
    ∙ ap (λ n. if nat_lt k n then get_or field (k + 2) 0 else 0) (sym is_count)
taken-at false field count taken k long is_count is_taken few digits =
    let none : nat_lt k taken ≡ false = grind (arith, nat_tests) in
    ap (λ b. if b then get_or field (k + 2) 0 % 16 else 0) none

pub picked-taken : (right : Bool) (field : List ℕ) (count taken : ℕ) (picked : List ℕ) → length field ≡ 16
    → count ≡ (if right then slice_index field 1 else 4) → taken ≡ (if right then slice_index field 1 else 0)
    → (IsTrue right → slice_index field 1 ≤ 12)
    → (IsTrue right → IsTrue (list_all (λ digit. nat_lt digit 10) (pin_digits field)))
    → length picked ≡ 12
    → ((k : ℕ) → k < 12 → get_or picked k 0 ≡ (if nat_lt k taken then get_or (take 12 (drop 2 field)) k 0 % 16 else 0))
    → IsPicked right field count picked
picked-taken right field count taken picked long is_count is_taken few digits is_long is = (
  is_long,
  λ k within.
      let place : 2 + k ≡ k + 2 = omega arith in
      is k within
      ∙ ap (λ digit. if nat_lt k taken then digit % 16 else 0)
      (get_or-take 12 (drop 2 field) k 0 within ∙ get_or-drop 2 field k 0 ∙ ap (λ n. get_or field n 0) place)
      ∙ taken-at right field count taken k long is_count is_taken few digits,
)

-- each is a digit of a PIN
pub picked-decimal : (right : Bool) (field : List ℕ) (count : ℕ) (picked : List ℕ) → length field ≡ 16
    → count ≡ (if right then slice_index field 1 else 4) → (IsTrue right → slice_index field 1 ≤ 12)
    → (IsTrue right → IsTrue (list_all (λ digit. nat_lt digit 10) (pin_digits field)))
    → IsPicked right field count picked → IsTrue (list_all (λ digit. nat_lt digit 10) picked)
picked-decimal right field count picked long is_count few digits is =
    list_all-from_AllPass (λ (digit : ℕ). nat_lt digit 10) picked
    (All-from_get_or (λ (digit : ℕ). nat_lt digit 10 ≡ true) picked 0 (λ k within.
    lt-ltb (get_or picked k 0) 10 (subst (λ (digit : ℕ). digit < 10) (sym (is.1 k (omega (arith, is.0))))
    (small right field count k long is_count few digits))))

-- if it is right, they are those of the PIN
pub picked-text : (right : Bool) (field : List ℕ) (count : ℕ) (picked : List ℕ) → length field ≡ 16
    → count ≡ (if right then slice_index field 1 else 4) → (IsTrue right → slice_index field 1 ≤ 12)
    → IsPicked right field count picked → IsTrue right → text_of (take count picked) ≡ text_of (pin_digits field)
picked-text true field count picked long is_count few is holds =
    ap (λ (n : ℕ). text_of (take n picked)) is_count
    ∙ ap text_of (picked-are field long (few holds) picked
    (subst (λ (n : ℕ). IsPicked true field n picked) is_count is))
picked-text false field count picked long is_count few is holds = cc
