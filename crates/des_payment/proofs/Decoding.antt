-- A block is decoded to a PIN exactly if it was encoded from that PIN.
use Rattle.std.proofs.Common.{◌≡◌, ◌↔◌, ℕ, ◌≤◌, List, length, replicate, Option, None, Result, Ok, Err, IfOk, refl, sym, ap, ◌∙◌, subst, lit≤, arith}
use Rattle.std.specs.Result.{result_err}
use Rattle.des.specs.Blocks.{IsBlock}
use Rattle.des.specs.Cbc.{xor_blocks}
use Rattle.des.specs.Relations.{IsTheOne}
use Rattle.des.proofs.XoredBlocks.{xor_blocks-undone, length-xor_blocks}
use Rattle.des_payment.specs.declared.pin_error.PinError.{PinError}
use Rattle.des_payment.specs.Digits.{digits_of}
use Rattle.des_payment.specs.Texts.{IsPin, IsAccountNumber, text_of}
use Rattle.des_payment.specs.PinBlocks.{pin_field, account_field, AreFill, IsFormat0, IsFormat1, IsFormat2, IsFormat3, field_fault, pin_digits}
use Rattle.des_payment.proofs.DigitLists.{digits_of-injective, length-digits_of}
use Rattle.des_payment.proofs.FieldDigits.{length-account_field}
use Rattle.des_payment.proofs.PinFields.{IsMade, IsMade-read, all_fifteen, length-pin_field, text_of-made, field_fault-made}

-- one block has these digits
pub IsTheOne-digits : (F : List ℕ → Type 0) (digits block : List ℕ)
    → ((other : List ℕ) → F other → digits_of other ≡ digits) → digits_of block ≡ digits → F block → IsTheOne F block
IsTheOne-digits F digits block by same is = (is, λ other it. digits_of-injective other block (by other it ∙ sym same))

-- a result with this fault, and else with this text, is a text of which F holds, if F holds of the text alone, and
-- of it exactly if there is no fault
exactly : (result : Result (List ℕ) PinError) (fault : Option PinError) (text : List ℕ) (F : List ℕ → Type 0)
    → result_err result ≡ fault
    → IfOk result (λ pin. pin ≡ text) → (fault ≡ None → F text)
    → ((pin : List ℕ) → F pin → (fault ≡ None) × (text ≡ pin)) → (pin : List ℕ) → (result ≡ Ok pin) ↔ F pin
exactly (Ok found) fault text F by is sound complete pin = (
  λ same. let found_is : found ≡ pin = cc in subst F (sym is ∙ found_is) (sound (sym by)),
  λ holds. ap Ok (is ∙ (complete pin holds).1),
)
exactly (Err error) fault text F by is sound complete pin =
    (λ same. cc, λ holds. let none = (complete pin holds).0 in cc)

-- the PIN field was made from the PIN with some fill digits
abbrev IsFieldOf : ℕ → ℕ → List ℕ → List ℕ → Type 0
IsFieldOf format least field pin =
    (fill : List ℕ) × (IsPin pin × AreFill least fill × (field ≡ pin_field format pin fill))

-- a PIN field is read: its fault, or the PIN
abbrev pub IsReading : Result (List ℕ) PinError → ℕ → ℕ → List ℕ → Type 0
IsReading result format least field =
    (result_err result ≡ field_fault format least field) × IfOk result (λ pin. pin ≡ text_of (pin_digits field))

-- what is read of it is that PIN, and what is read was made from it
reads : (result : Result (List ℕ) PinError) (format least : ℕ) (field : List ℕ) → length field ≡ 16 → least ≤ 15
    → IsReading result format least field → (pin : List ℕ) → (result ≡ Ok pin) ↔ IsFieldOf format least field pin
reads result format least field count at_most (by, is) =
    exactly result (field_fault format least field) (text_of (pin_digits field)) (IsFieldOf format least field) by is
    (λ none. let read : IsMade format least field = IsMade-read format least field count at_most none in
    (read.fill, (read.is_pin, read.filled, read.made)))
    (λ pin (fill, made). (
      ap (field_fault format least) made.2 ∙ field_fault-made format least pin fill made.0 made.1,
      ap (λ (digits : List ℕ). text_of (pin_digits digits)) made.2 ∙ text_of-made format least pin fill made.0 made.1,
    ))

-- fill digits from 15 are all 15
fifteen : (fill : List ℕ) → AreFill 15 fill → fill ≡ replicate 10 15
fifteen fill filled = all_fifteen fill filled.1 ∙ ap (λ (n : ℕ). replicate n 15) filled.0

through : (A B C : Type 0) → A ↔ B → B ↔ C → A ↔ C
through A B C first second = (λ a. second.0 (first.0 a), λ c. first.1 (second.1 c))

-- ---- the formats

module _ (block field : List ℕ) (is_block : IsBlock block) (same : field ≡ digits_of block) where
  length-digits : length field ≡ 16
  length-digits = ap length same ∙ omega (arith, length-digits_of block, is_block.0)

  pub decodes-format_1 : (result : Result (List ℕ) PinError) → IsReading result 1 0 field → (pin : List ℕ)
      → (result ≡ Ok pin) ↔ ((transaction : List ℕ) × IsFormat1 pin transaction block)
  decodes-format_1 result read pin = through _ _ _ (reads result 1 0 field length-digits (lit≤ tt) read pin) (
    λ (fill, made). (fill, (made.0, made.1, (is_block, sym same ∙ made.2))),
    λ (fill, is). (fill, (is.0, is.1, same ∙ is.2.1)),
  )

  pub decodes-format_2 : (result : Result (List ℕ) PinError) → IsReading result 2 15 field → (pin : List ℕ)
      → (result ≡ Ok pin) ↔ IsFormat2 pin block
  decodes-format_2 result read pin = through _ _ _ (reads result 2 15 field length-digits (lit≤ tt) read pin) (
    λ (fill, made). (made.0, (is_block, sym same ∙ made.2 ∙ ap (pin_field 2 pin) (fifteen fill made.1))),
    λ is. (replicate 10 15, (is.0, (refl, refl), same ∙ is.1.1)),
  )

module _ (account block field : List ℕ) (is_account : IsAccountNumber account) (is_block : IsBlock block)
    (same : field ≡ xor_blocks (digits_of block) (account_field account)) where
  count : length (digits_of block) ≡ 16
  count = omega (arith, length-digits_of block, is_block.0)

  length-field : length field ≡ 16
  length-field =
      ap length same
      ∙ length-xor_blocks (digits_of block) (account_field account)
      (omega (arith, count, length-account_field account is_account))
      ∙ count

  -- the digits of the block are the field xor the account field
  from_field : (other : List ℕ) → field ≡ other → digits_of block ≡ xor_blocks other (account_field account)
  from_field other is =
      sym (xor_blocks-undone (digits_of block) (account_field account)
      (omega (arith, count, length-account_field account is_account)))
      ∙ ap (λ (digits : List ℕ). xor_blocks digits (account_field account)) (sym same ∙ is)

  to_field : (other : List ℕ) → length other ≡ 16 → digits_of block ≡ xor_blocks other (account_field account)
      → field ≡ other
  to_field other long is =
      same
      ∙ ap (λ (digits : List ℕ). xor_blocks digits (account_field account)) is
      ∙ xor_blocks-undone other (account_field account) (omega (arith, long, length-account_field account is_account))

  pub decodes-format_0 : (result : Result (List ℕ) PinError) → IsReading result 0 15 field → (pin : List ℕ)
      → (result ≡ Ok pin) ↔ IsFormat0 pin account block
  decodes-format_0 result read pin = through _ _ _ (reads result 0 15 field length-field (lit≤ tt) read pin) (
    λ (fill, made).
        let made_of = made.2 ∙ ap (pin_field 0 pin) (fifteen fill made.1) in
        (made.0, is_account, (is_block, from_field (pin_field 0 pin (replicate 10 15)) made_of)),
    λ is.
        let filled : AreFill 15 (replicate 10 15) = (refl, refl) in
        let long = length-pin_field 0 15 pin (replicate 10 15) is.0 filled in
        (replicate 10 15, (is.0, filled, to_field (pin_field 0 pin (replicate 10 15)) long is.2.1)),
  )

  pub decodes-format_3 : (result : Result (List ℕ) PinError) → IsReading result 3 10 field → (pin : List ℕ)
      → (result ≡ Ok pin) ↔ ((fill : List ℕ) × IsFormat3 pin account fill block)
  decodes-format_3 result read pin = through _ _ _ (reads result 3 10 field length-field (lit≤ tt) read pin) (
    λ (fill, made). (fill, (made.0, is_account, made.1, (is_block, from_field (pin_field 3 pin fill) made.2))),
    λ (fill, is).
        (fill, (is.0, is.2, to_field (pin_field 3 pin fill) (length-pin_field 3 10 pin fill is.0 is.2) is.3.1)),
  )
