-- PIN verification without the PIN: the PIN verification value (PVV), and the method of the IBM 3624
-- with natural PINs and offsets. PINs and account numbers are texts, decimalization tables are lists
-- of digits.
use Rattle.std.specs.Prelude.{◌≡◌, ℕ, ◌+◌, ◌-◌, ◌%◌, ◌==◌, ◌&&◌, not, nat_lt, nat_le, if◌then◌else◌, List, [], ◌∷◌, ◌++◌, length, map, filter, take, drop, slice_index, codes, Option, Some, None}
use Rattle.std.specs.List.{list_any}
use Rattle.std.specs.Option.{option_or}
use Rattle.std.specs.Simd.Lanes.{zip2}
use Rattle.des.specs.TripleCiphers.{ede2_encryption}
use Rattle.des_payment.specs.Digits.{digits_of, bytes_of}
use Rattle.des_payment.specs.Texts.{values, text_of, number_fault}
use Rattle.des_payment.specs.CardVerification.{decimals_first}
use Rattle.des_payment.specs.KeyLengths.{is_key, encryption_by}
use Rattle.des_payment.specs.declared.verification_error.VerificationError.{VerificationError}
use Rattle.des_payment.specs.declared.verification_error.VerificationError.TheVariants.{AccountLength, AccountDigit, KeyIndex, KeyLength, PinLength, TableLength, TableDigit, TableVariety, WrongPin}

-- ---- the PIN verification value

-- sixteen digits: the eleven rightmost digits of the account number without its check digit, the
-- index of the key, and the first four digits of the PIN: 48 is the character 0
abbrev pub pvv_text : List ℕ → ℕ → List ℕ → List ℕ
pvv_text account index pin =
    take 11 (drop (length account - 12) account) ++ (index + 48) ∷ take 4 pin

-- they are encrypted under the pair of keys; of the ciphertext's digits those below ten come first, and
-- then the others, less ten; the first four are the value
abbrev pub pvv : List ℕ → List ℕ → ℕ → List ℕ → List ℕ
pvv key account index pin =
    let block : List ℕ = bytes_of (values (pvv_text account index pin)) in
    text_of (take 4 (decimals_first (digits_of (ede2_encryption key block))))

-- the first fault
abbrev pub pvv_fault : List ℕ → ℕ → Option VerificationError
pvv_fault account index =
    option_or (number_fault 12 19 AccountLength AccountDigit account)
    (if not (nat_le 1 index && nat_le index 6) then Some KeyIndex else None)

-- ---- natural PINs and offsets

-- the digits of the validation data, encrypted, each by the decimalization table
abbrev pub natural_digits : List ℕ → List ℕ → List ℕ → List ℕ
natural_digits key table validation =
    map (slice_index table) (digits_of (encryption_by key validation))

-- the natural PIN: the first of them
abbrev pub natural_pin : List ℕ → List ℕ → List ℕ → ℕ → List ℕ
natural_pin key table validation count = text_of (take count (natural_digits key table validation))

-- two texts, digit by digit, modulo ten: the second less the first, and their sum
abbrev pub offset_between : List ℕ → List ℕ → List ℕ
offset_between natural pin =
    text_of (zip2 (λ digit other. (digit + 10 - other) % 10) (values pin) (values natural))

abbrev pub sum_of : List ℕ → List ℕ → List ℕ
sum_of natural offset =
    text_of (zip2 (λ digit other. (digit + other) % 10) (values natural) (values offset))

-- the offset of a PIN
abbrev pub pin_offset : List ℕ → List ℕ → List ℕ → List ℕ → List ℕ
pin_offset key table validation pin =
    offset_between (natural_pin key table validation (length pin)) pin

-- a PIN is right if it is the sum of the natural PIN and the offset
abbrev pub IsRight : List ℕ → List ℕ → List ℕ → List ℕ → List ℕ → Type 0
IsRight key table validation offset pin =
    pin ≡ sum_of (natural_pin key table validation (length offset)) offset

-- the fault of a key, if it has one, and of a natural PIN's length after it
abbrev pub key_fault : List ℕ → Option VerificationError
key_fault key = if not (is_key key) then Some KeyLength else None

abbrev pub natural_fault : List ℕ → ℕ → Option VerificationError
natural_fault key count =
    option_or (key_fault key)
    (if not (nat_le 4 count && nat_le count 12) then Some PinLength else None)

-- ---- decimalization tables

-- how many of the ten digits a table has
abbrev pub variety : List ℕ → ℕ
variety table =
    length
    (filter (λ digit. list_any (λ other. other == digit) table)
    (0 ∷ 1 ∷ 2 ∷ 3 ∷ 4 ∷ 5 ∷ 6 ∷ 7 ∷ 8 ∷ 9 ∷ []))

-- the first fault of a text that is to be a table with at least this many different digits
abbrev pub table_fault : ℕ → List ℕ → Option VerificationError
table_fault least text =
    option_or (number_fault 16 16 TableLength TableDigit text)
    (if nat_lt (variety (values text)) least then Some TableVariety else None)

-- the name that `Display` writes
abbrev pub name_of : VerificationError → List ℕ
name_of AccountLength = codes "AccountLength"
name_of AccountDigit = codes "AccountDigit"
name_of KeyIndex = codes "KeyIndex"
name_of KeyLength = codes "KeyLength"
name_of PinLength = codes "PinLength"
name_of TableLength = codes "TableLength"
name_of TableDigit = codes "TableDigit"
name_of TableVariety = codes "TableVariety"
name_of WrongPin = codes "WrongPin"
