-- PIN blocks (ISO 9564-1): eight bytes, sixteen digits of four bits. PINs and account numbers are
-- texts.
use Rattle.std.specs.Prelude.{◌≡◌, ℕ, ◌==◌, ◌&&◌, not, nat_lt, nat_le, if◌then◌else◌, List, ◌∷◌, ◌++◌, Bool, length, take, drop, replicate, slice_index, codes, IsTrue, Option, Some, None}
use Rattle.std.specs.List.{list_all}
use Rattle.des.specs.Blocks.{IsBlock}
use Rattle.des.specs.Cbc.{xor_blocks}
use Rattle.des_payment.specs.Digits.{digits_of}
use Rattle.des_payment.specs.Texts.{IsPin, IsAccountNumber, unchecked, values, number_fault}
use Rattle.des_payment.specs.declared.pin_error.PinError.{PinError}
use Rattle.des_payment.specs.declared.pin_error.PinError.TheVariants.{PinLength, PinDigit, AccountLength, AccountDigit, Fill, Format}

-- the PIN field: the format's digit, the length of the PIN, its digits, and then fill digits to
-- the sixteenth
abbrev pub pin_field : ℕ → List ℕ → List ℕ → List ℕ
pin_field format pin fill = format ∷ length pin ∷ take 14 (values pin ++ fill)

-- the last digits of a list, with zeros at the left if it has fewer
abbrev pub last_digits : ℕ → List ℕ → List ℕ
last_digits count digits = drop (length digits) (replicate count 0 ++ digits)

-- the account field: four zeros, and the twelve rightmost digits of the account number without its
-- check digit
abbrev pub account_field : List ℕ → List ℕ
account_field account = replicate 4 0 ++ last_digits 12 (values (unchecked account))

-- a fill digit of a format that has those from a least one to 15
abbrev pub is_fill : ℕ → ℕ → Bool
is_fill least digit = nat_le least digit && nat_le digit 15

-- ten of them
abbrev pub AreFill : ℕ → List ℕ → Type 0
AreFill least fill = (length fill ≡ 10) × IsTrue (list_all (is_fill least) fill)

-- the block of these digits
abbrev pub IsBlockOf : List ℕ → List ℕ → Type 0
IsBlockOf digits block = IsBlock block × (digits_of block ≡ digits)

-- format 0: the PIN field, filled with 15, xor the account field
abbrev pub IsFormat0 : List ℕ → List ℕ → List ℕ → Type 0
IsFormat0 pin account block =
    IsPin pin × IsAccountNumber account
    × IsBlockOf (xor_blocks (pin_field 0 pin (replicate 10 15)) (account_field account)) block

-- format 1: the PIN field, filled with transaction digits from 0 to 15
abbrev pub IsFormat1 : List ℕ → List ℕ → List ℕ → Type 0
IsFormat1 pin transaction block =
    IsPin pin × AreFill 0 transaction × IsBlockOf (pin_field 1 pin transaction) block

-- format 2: the PIN field, filled with 15
abbrev pub IsFormat2 : List ℕ → List ℕ → Type 0
IsFormat2 pin block = IsPin pin × IsBlockOf (pin_field 2 pin (replicate 10 15)) block

-- format 3: the PIN field, filled with digits from 10 to 15, xor the account field
abbrev pub IsFormat3 : List ℕ → List ℕ → List ℕ → List ℕ → Type 0
IsFormat3 pin account fill block =
    IsPin pin × IsAccountNumber account × AreFill 10 fill
    × IsBlockOf (xor_blocks (pin_field 3 pin fill) (account_field account)) block

-- the fault of a PIN, if it has one, of an account number, and of fill digits
abbrev pub pin_fault : List ℕ → Option PinError
pin_fault pin = number_fault 4 12 PinLength PinDigit pin

abbrev pub account_fault : List ℕ → Option PinError
account_fault account = number_fault 8 19 AccountLength AccountDigit account

abbrev pub fill_fault : ℕ → List ℕ → Option PinError
fill_fault least fill = if not (list_all (is_fill least) fill) then Some Fill else None

-- the digits of the PIN in a PIN field, and the fill digits after them
abbrev pub pin_digits : List ℕ → List ℕ
pin_digits field = take (slice_index field 1) (drop 2 field)

abbrev pub fill_digits : List ℕ → List ℕ
fill_digits field = drop (slice_index field 1) (drop 2 field)

-- the fault of sixteen digits that are to be a PIN field, if they have one: of the format's digit,
-- of the length, of the PIN's digits, of the fill digits
abbrev pub field_fault : ℕ → ℕ → List ℕ → Option PinError
field_fault format least field =
    if not (slice_index field 0 == format) then Some Format
    else if not (nat_le 4 (slice_index field 1) && nat_le (slice_index field 1) 12)
    then Some PinLength
    else if not (list_all (λ digit. nat_lt digit 10) (pin_digits field)) then Some PinDigit
    else fill_fault least (fill_digits field)

-- the name that `Display` writes
abbrev pub name_of : PinError → List ℕ
name_of Format = codes "Format"
name_of PinLength = codes "PinLength"
name_of PinDigit = codes "PinDigit"
name_of AccountLength = codes "AccountLength"
name_of AccountDigit = codes "AccountDigit"
name_of Fill = codes "Fill"
