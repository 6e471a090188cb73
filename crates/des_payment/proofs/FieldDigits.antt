-- The fields of PIN blocks are of sixteen digits, and so is their xor.
use Rattle.std.proofs.Common.{◌≡◌, ℕ, ◌-◌, ◌<◌, List, [], ◌∷◌, ◌++◌, nat_le, length, get_or, take, replicate, bit_xor, IsTrue, sym, ◌∙◌, arith}
use Rattle.std.specs.List.{All}
use Rattle.std.proofs.lemmas.Bool.{and_parts, leb-true}
use Rattle.std.proofs.lemmas.Nat.{xor_lt}
use Rattle.std.proofs.lemmas.Simd.{get_or-zip2}
use Rattle.std.proofs.lemmas.List.{length-append, length-drop}
use Rattle.std.proofs.lemmas.List.Elements.{All-from_get_or, All-append, All-take, All-drop, All-replicate}
use Rattle.std.proofs.lemmas.List.Sums.{AllPass-from_list_all}
use Rattle.des.specs.Cbc.{xor_blocks}
use Rattle.des.proofs.XoredBlocks.{length-xor_blocks}
use Rattle.des_payment.specs.Texts.{IsPin, IsAccountNumber, are_digits, unchecked, values}
use Rattle.des_payment.specs.PinBlocks.{pin_field, account_field, last_digits, is_fill, AreFill}
use Rattle.des_payment.proofs.TextDigits.{below_at, decimal-values, are_digits-part}
use Rattle.des_payment.proofs.PinFields.{length-pin_field}

-- each is a digit of four bits
abbrev pub AreDigits : List ℕ → Type 0
AreDigits digits = All (λ digit. digit < 16) digits

AreDigits-one : (digit : ℕ) → digit < 16 → AreDigits (digit ∷ [])
AreDigits-one digit small = All-replicate (λ (digit : ℕ). digit < 16) 1 digit small

pub AreDigits-values : (text : List ℕ) → IsTrue (are_digits text) → AreDigits (values text)
AreDigits-values text all =
    All-from_get_or (λ (digit : ℕ). digit < 16) (values text) 0 (λ i within.
    let small = below_at 10 (values text) i (decimal-values text all) within in omega arith)

pub AreDigits-fill : (least : ℕ) (fill : List ℕ) → AreFill least fill → AreDigits fill
AreDigits-fill least fill filled =
    All-from_get_or (λ (digit : ℕ). digit < 16) fill 0 (λ i within.
    let digit : ℕ = get_or fill i 0 in
    let both = and_parts (nat_le least digit) (nat_le digit 15)
    (AllPass-from_list_all (is_fill least) fill filled.1 i 0 within) in
    let small = leb-true digit 15 both.1 in
    omega arith)

pub AreDigits-pin_field : (format least : ℕ) (pin fill : List ℕ) → format < 16 → IsPin pin → AreFill least fill
    → AreDigits (pin_field format pin fill)
AreDigits-pin_field format least pin fill small is_pin filled =
    let IsDigit : ℕ → Type 0 = λ digit. digit < 16 in
    All-append IsDigit (format ∷ length pin ∷ []) (take 14 (values pin ++ fill))
    (All-append IsDigit (format ∷ []) (length pin ∷ []) (AreDigits-one format small)
    (AreDigits-one (length pin) (omega (arith, is_pin.1))))
    (All-take IsDigit 14 (values pin ++ fill)
    (All-append IsDigit (values pin) fill (AreDigits-values pin is_pin.2) (AreDigits-fill least fill filled)))

module _ (account : List ℕ) (is_account : IsAccountNumber account) where
  pub AreDigits-account_field : AreDigits (account_field account)
  AreDigits-account_field =
      let IsDigit : ℕ → Type 0 = λ digit. digit < 16 in
      let digits : List ℕ = values (unchecked account) in
      All-append IsDigit (replicate 4 0) (last_digits 12 digits) (All-replicate IsDigit 4 0 (omega arith))
      (All-drop IsDigit (length digits) (replicate 12 0 ++ digits)
      (All-append IsDigit (replicate 12 0) digits (All-replicate IsDigit 12 0 (omega arith))
      (AreDigits-values (unchecked account) (are_digits-part account 0 (length account - 1) is_account.2))))

  pub length-account_field : length (account_field account) ≡ 16
  length-account_field =
      let digits : List ℕ = values (unchecked account) in
      omega (
        arith,
        length-append (replicate 4 0) (last_digits 12 digits),
        length-drop (length digits) (replicate 12 0 ++ digits),
        length-append (replicate 12 0) digits,
      )

-- the xor of two lists of digits
pub AreDigits-xor_blocks : (digits others : List ℕ) → length digits ≡ length others → AreDigits digits
    → AreDigits others → AreDigits (xor_blocks digits others)
unfolding xor_blocks
AreDigits-xor_blocks digits others same are_digits are_others =
    let long = length-xor_blocks digits others same in
    All-from_get_or (λ (digit : ℕ). digit < 16) (xor_blocks digits others) 0 (λ i within.
    rw (get_or-zip2 bit_xor digits others i 0 0 0 (omega arith) (omega arith))
    (xor_lt 4 (get_or digits i 0) (get_or others i 0) (are_digits i 0 (omega arith)) (are_others i 0 (omega arith))))

-- the xor of a PIN field and an account field
pub AreDigits-fields : (format least : ℕ) (pin fill account : List ℕ) → format < 16 → IsPin pin → AreFill least fill
    → IsAccountNumber account → AreDigits (xor_blocks (pin_field format pin fill) (account_field account))
AreDigits-fields format least pin fill account small is_pin filled is_account =
    AreDigits-xor_blocks (pin_field format pin fill) (account_field account)
    (length-pin_field format least pin fill is_pin filled ∙ sym (length-account_field account is_account))
    (AreDigits-pin_field format least pin fill small is_pin filled) (AreDigits-account_field account is_account)
