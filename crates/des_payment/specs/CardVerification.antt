-- Card verification values. Account numbers, dates and codes are texts.
use Rattle.std.specs.Prelude.{ℕ, ◌-◌, not, nat_lt, Bool, List, ◌++◌, map, filter, take, drop, replicate, codes, Option}
use Rattle.std.specs.Option.{option_or}
use Rattle.des.specs.Blocks.{part}
use Rattle.des.specs.Cbc.{xor_blocks}
use Rattle.des.specs.Des.{encryption}
use Rattle.des.specs.TripleCiphers.{ede2_encryption}
use Rattle.des_payment.specs.Digits.{digits_of, bytes_of}
use Rattle.des_payment.specs.Texts.{values, text_of, number_fault}
use Rattle.des_payment.specs.declared.cvv_error.CvvError.{CvvError}
use Rattle.des_payment.specs.declared.cvv_error.CvvError.TheVariants.{AccountLength, AccountDigit, ExpiryLength, ExpiryDigit, ServiceLength, ServiceDigit}

-- the account number, the expiry date and the service code, filled with zeros to 32 digits: 48 is
-- the character 0
abbrev pub card_text : List ℕ → List ℕ → List ℕ → List ℕ
card_text account expiry service = take 32 (account ++ expiry ++ service ++ replicate 32 48)

-- the two blocks of these digits
abbrev pub first_block : List ℕ → List ℕ
first_block text = bytes_of (take 16 (values text))

abbrev pub second_block : List ℕ → List ℕ
second_block text = bytes_of (drop 16 (values text))

-- the first block under the first part of the key, xor the second block, under both parts
abbrev pub card_block : List ℕ → List ℕ → List ℕ
card_block key text =
    ede2_encryption key
    (xor_blocks (encryption (part 1 key) (first_block text)) (second_block text))

-- digits in another order: those below ten, and then the others, less ten
abbrev pub is_decimal : ℕ → Bool
is_decimal digit = nat_lt digit 10

abbrev pub is_letter : ℕ → Bool
is_letter digit = not (nat_lt digit 10)

abbrev pub decimals_first : List ℕ → List ℕ
decimals_first digits =
    filter is_decimal digits ++ map (λ digit. digit - 10) (filter is_letter digits)

-- the card verification value: the first three of them
abbrev pub verification_value : List ℕ → List ℕ → List ℕ → List ℕ → List ℕ
verification_value key account expiry service =
    text_of
    (take 3 (decimals_first (digits_of (card_block key (card_text account expiry service)))))

-- the first fault
abbrev pub card_fault : List ℕ → List ℕ → List ℕ → Option CvvError
card_fault account expiry service =
    option_or (number_fault 12 19 AccountLength AccountDigit account)
    (option_or (number_fault 4 4 ExpiryLength ExpiryDigit expiry)
    (number_fault 3 3 ServiceLength ServiceDigit service))

-- the name that `Display` writes
abbrev pub name_of : CvvError → List ℕ
name_of AccountLength = codes "AccountLength"
name_of AccountDigit = codes "AccountDigit"
name_of ExpiryLength = codes "ExpiryLength"
name_of ExpiryDigit = codes "ExpiryDigit"
name_of ServiceLength = codes "ServiceLength"
name_of ServiceDigit = codes "ServiceDigit"
