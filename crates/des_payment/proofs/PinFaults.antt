-- The fault of a PIN field, if its tests are known.
use Rattle.std.proofs.Common.{◌≡◌, ℕ, ◌≤◌, List, Bool, true, ◌==◌, ◌&&◌, not, nat_lt, nat_le, if◌then◌else◌, slice_index, Some, None, refl, eq-eqb}
use Rattle.std.specs.List.{list_all}
use Rattle.std.specs.Cmp.Derive.{both_true}
use Rattle.std.proofs.lemmas.Bool.{le-leb}
use Rattle.des_payment.specs.declared.pin_error.PinError.TheVariants.{PinDigit, Fill}
use Rattle.des_payment.specs.PinBlocks.{is_fill, field_fault, pin_digits, fill_digits}

module _ (format least : ℕ) (field : List ℕ) (first : slice_index field 0 ≡ format) (from : 4 ≤ slice_index field 1)
    (to : slice_index field 1 ≤ 12) where
  -- with the format's digit and a length of a PIN, it is told by the other digits
  pub field_fault-digits : (decimal filled : Bool)
      → list_all (λ (digit : ℕ). nat_lt digit 10) (pin_digits field) ≡ decimal
      → list_all (is_fill least) (fill_digits field) ≡ filled
      → field_fault format least field
      ≡ (if not decimal then Some PinDigit else (if not filled then Some Fill else None))
  field_fault-digits decimal filled pin fill =
      let same : (slice_index field 0 == format) ≡ true = eq-eqb (slice_index field 0) format first in
      let long : (nat_le 4 (slice_index field 1) && nat_le (slice_index field 1) 12) ≡ true =
      both_true (le-leb 4 (slice_index field 1) from) (le-leb (slice_index field 1) 12 to) in
      rw (same, long, pin, fill) refl
