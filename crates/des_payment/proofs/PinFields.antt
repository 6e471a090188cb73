-- A PIN field is read as the PIN that it was made from, and what is read was made from that PIN.
use Rattle.std.proofs.Common.{◌≡◌, ℕ, zero, suc, ◌+◌, ◌-◌, ◌≤◌, List, [], ◌∷◌, ◌++◌, Bool, true, false, ◌&&◌, ◌==◌, not, if◌then◌else◌, nat_lt, nat_le, length, take, drop, replicate, slice_index, Some, None, refl, sym, ap, ap₂, ◌∙◌, append_assoc, arith}
use Rattle.std.specs.List.{list_all}
use Rattle.std.specs.Cmp.Derive.{both_true}
use Rattle.std.proofs.Math.Seq.{take-append-add}
use Rattle.std.proofs.lemmas.Bool.{and_parts, eqb-true, leb-true, le-leb}
use Rattle.std.proofs.lemmas.List.{take_at, drop_at, take-append-drop, length-map, length-append, length-take-le, length-drop, length-replicate, append-nil}
use Rattle.std.proofs.lemmas.List.Sums.{AllPass-from_list_all, list_all-from_AllPass}
use Rattle.std.proofs.lemmas.List.Folds.{list_all-append}
use Rattle.std.proofs.lemmas.List.Elements.{All-take}
use Rattle.des_payment.specs.declared.pin_error.PinError.TheVariants.{Format, PinLength, PinDigit, Fill}
use Rattle.des_payment.specs.Texts.{IsPin, values, text_of}
use Rattle.des_payment.specs.PinBlocks.{pin_field, is_fill, AreFill, field_fault, pin_digits, fill_digits}
use Rattle.des_payment.proofs.TextDigits.{are_digits-text_of, decimal-values, text_of-values, values-text_of}
use Rattle.des_payment.proofs.PinFaults.{field_fault-digits}

-- ---- what is made is read

module _ (pin fill : List ℕ) (is_pin : IsPin pin) where
  long : length (values pin) ≡ length pin
  long = length-map pin _

  -- the digits after the first two are those of the PIN, and fill digits
  pub taken : take 14 (values pin ++ fill) ≡ values pin ++ take (14 - length pin) fill
  taken =
      let count : 14 ≡ length (values pin) + (14 - length pin) = omega (arith, long, is_pin.1) in
      ap (λ (n : ℕ). take n (values pin ++ fill)) count ∙ take-append-add (values pin) fill (14 - length pin)

  -- also if the values stand before others
  pub pin_field-made : (format count : ℕ) (before digits : List ℕ) → count ≡ length pin
      → take (length pin) before ≡ values pin
      → digits ≡ take count before ++ take (14 - count) fill
      → format ∷ count ∷ (digits ++ []) ≡ pin_field format pin fill
  pin_field-made format count before digits same front made =
      ap (λ (xs : List ℕ). format ∷ count ∷ xs)
      (append-nil digits
      ∙ made
      ∙ ap (λ (n : ℕ). take n before ++ take (14 - n) fill) same
      ∙ ap (λ (xs : List ℕ). xs ++ take (14 - length pin) fill) front
      ∙ sym taken)
      ∙ ap (λ (n : ℕ). format ∷ n ∷ take 14 (values pin ++ fill)) same

module _ (format least : ℕ) (pin fill : List ℕ) (is_pin : IsPin pin) (filled : AreFill least fill) where
  pin_digits-made : pin_digits (pin_field format pin fill) ≡ values pin
  pin_digits-made =
      ap (take (length pin)) (taken pin fill is_pin)
      ∙ take_at (values pin) (take (14 - length pin) fill) (length pin) (long pin fill is_pin)

  fill_digits-made : fill_digits (pin_field format pin fill) ≡ take (14 - length pin) fill
  fill_digits-made =
      ap (drop (length pin)) (taken pin fill is_pin)
      ∙ drop_at (values pin) (take (14 - length pin) fill) (length pin) (long pin fill is_pin)

  pub length-pin_field : length (pin_field format pin fill) ≡ 16
  length-pin_field =
      omega (
        arith,
        length-take-le 14 (values pin ++ fill)
            (omega (arith, length-append (values pin) fill, long pin fill is_pin, filled.0, is_pin.0)),
      )

  pub text_of-made : text_of (pin_digits (pin_field format pin fill)) ≡ pin
  text_of-made = ap text_of pin_digits-made ∙ text_of-values pin is_pin.2

  pub field_fault-made : field_fault format least (pin_field format pin fill) ≡ None
  field_fault-made =
      let IsFill : ℕ → Type 0 = λ digit. is_fill least digit ≡ true in
      field_fault-digits format least (pin_field format pin fill) refl is_pin.0 is_pin.1 true true
      (ap (list_all (λ (digit : ℕ). nat_lt digit 10)) pin_digits-made ∙ decimal-values pin is_pin.2)
      (ap (list_all (is_fill least)) fill_digits-made
      ∙ list_all-from_AllPass (is_fill least) (take (14 - length pin) fill)
      (All-take IsFill (14 - length pin) fill (AllPass-from_list_all (is_fill least) fill filled.1)))

-- ---- what is read was made

-- four tests in a row find no fault if each of them passes
all_pass : (a b c d : Bool)
    → (if not a then Some Format
    else (if not b then Some PinLength else (if not c then Some PinDigit else (if not d then Some Fill else None))))
    ≡ None
    → (a ≡ true) × (b ≡ true) × (c ≡ true) × (d ≡ true)
all_pass true true true true none = (refl, refl, refl, refl)
all_pass false b c d none = (cc, cc, cc, cc)
all_pass true false c d none = (cc, cc, cc, cc)
all_pass true true false d none = (cc, cc, cc, cc)
all_pass true true true false none = (cc, cc, cc, cc)

-- digits that are all 15 are fill digits
list_all-replicate : (least n : ℕ) → least ≤ 15 → list_all (is_fill least) (replicate n 15) ≡ true
list_all-replicate least zero at_most = refl
list_all-replicate least (suc n) at_most =
    both_true (both_true (le-leb least 15 at_most) refl) (list_all-replicate least n at_most)

-- fill digits that are at least 15 are 15
pub all_fifteen : (digits : List ℕ) → list_all (is_fill 15) digits ≡ true → digits ≡ replicate (length digits) 15
all_fifteen [] all = refl
all_fifteen (digit ∷ digits) all =
    let parts = and_parts (is_fill 15 digit) (list_all (is_fill 15) digits) all in
    let bounds = and_parts (nat_le 15 digit) (nat_le digit 15) parts.0 in
    let same : digit ≡ 15 = omega (arith, leb-true 15 digit bounds.0, leb-true digit 15 bounds.1) in
    ap₂ (λ (x : ℕ) (xs : List ℕ). x ∷ xs) same (all_fifteen digits parts.1)

-- a list of two elements or more
first_two : (field : List ℕ) → 2 ≤ length field → field ≡ slice_index field 0 ∷ slice_index field 1 ∷ drop 2 field
first_two [] more = absurd (omega arith)
first_two (x ∷ []) more = absurd (omega arith)
first_two (x ∷ y ∷ rest) more = refl

-- the PIN that is read, and fill digits with which the field is made from it
pub record IsMade (format least : ℕ) (field : List ℕ) : Type 0 where
  pub is_pin : IsPin (text_of (pin_digits field))
  pub fill : List ℕ
  pub filled : AreFill least fill
  pub made : field ≡ pin_field format (text_of (pin_digits field)) fill

module _ (format least : ℕ) (field : List ℕ) (count : length field ≡ 16) (at_most : least ≤ 15)
    (none : field_fault format least field ≡ None) where
  tests : ((slice_index field 0 == format) ≡ true)
      × ((nat_le 4 (slice_index field 1) && nat_le (slice_index field 1) 12) ≡ true)
      × (list_all (λ digit. nat_lt digit 10) (pin_digits field) ≡ true)
      × (list_all (is_fill least) (fill_digits field) ≡ true)
  tests =
      all_pass (slice_index field 0 == format) (nat_le 4 (slice_index field 1) && nat_le (slice_index field 1) 12)
      (list_all (λ digit. nat_lt digit 10) (pin_digits field)) (list_all (is_fill least) (fill_digits field)) none

  bounds : (4 ≤ slice_index field 1) × (slice_index field 1 ≤ 12)
  bounds =
      let both = and_parts (nat_le 4 (slice_index field 1)) (nat_le (slice_index field 1) 12) tests.1 in
      (leb-true 4 (slice_index field 1) both.0, leb-true (slice_index field 1) 12 both.1)

  rest_long : length (drop 2 field) ≡ 14
  rest_long = omega (arith, length-drop 2 field)

  pin_long : length (pin_digits field) ≡ slice_index field 1
  pin_long = length-take-le (slice_index field 1) (drop 2 field) (omega (arith, rest_long, bounds.1))

  text_long : length (text_of (pin_digits field)) ≡ slice_index field 1
  text_long = length-map (pin_digits field) _ ∙ pin_long

  fill_long : length (fill_digits field) ≡ 14 - slice_index field 1
  fill_long = omega (arith, length-drop (slice_index field 1) (drop 2 field), rest_long)

  more : List ℕ
  more = replicate (slice_index field 1 - 4) 15

  pub IsMade-read : IsMade format least field
  unfolding more
  IsMade-read = record {
    is_pin = (
      omega (arith, text_long, bounds.0),
      omega (arith, text_long, bounds.1),
      are_digits-text_of (pin_digits field) tests.2,
    );
    fill = fill_digits field ++ more;
    filled = (
      length-append (fill_digits field) more
          ∙ omega (arith, fill_long, length-replicate {A = ℕ} (slice_index field 1 - 4) 15, bounds.0, bounds.1),
      list_all-append (is_fill least) (fill_digits field) more
          ∙ both_true tests.3 (list_all-replicate least (slice_index field 1 - 4) at_most),
    );
    made =
        let digits : take 14 (values (text_of (pin_digits field)) ++ (fill_digits field ++ more)) ≡ drop 2 field =
        ap (λ (pin : List ℕ). take 14 (pin ++ (fill_digits field ++ more))) (values-text_of (pin_digits field))
        ∙ ap (take 14) (sym (append_assoc (pin_digits field) (fill_digits field) more))
        ∙ ap (λ (xs : List ℕ). take 14 (xs ++ more)) (take-append-drop (slice_index field 1) (drop 2 field))
        ∙ take_at (drop 2 field) more 14 rest_long in
        first_two field (omega arith)
        ∙ ap₂ (λ (x : ℕ) (xs : List ℕ). x ∷ xs) (eqb-true (slice_index field 0) format tests.0)
        (ap₂ (λ (x : ℕ) (xs : List ℕ). x ∷ xs) (sym text_long) (sym digits));
  }
