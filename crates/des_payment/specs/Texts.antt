-- Numbers as texts: lists of ASCII digits, of which `0` is 48.
use Rattle.std.specs.Prelude.{ℕ, ◌+◌, ◌-◌, ◌≤◌, ◌&&◌, Bool, not, nat_le, if◌then◌else◌, List, length, map, take, IsTrue, Option, Some, None}
use Rattle.std.specs.List.{list_all}
use Rattle.std.specs.Char.{is_ascii_digit}

-- each character is a digit
abbrev pub are_digits : List ℕ → Bool
are_digits text = list_all is_ascii_digit text

-- a text of digits, from the least to the greatest number of them
abbrev pub IsNumber : ℕ → ℕ → List ℕ → Type 0
IsNumber least most text = (least ≤ length text) × (length text ≤ most) × IsTrue (are_digits text)

-- the values of the digits of a text, and the text of digits of these values
abbrev pub values : List ℕ → List ℕ
values text = map (λ character. character - 48) text

abbrev pub text_of : List ℕ → List ℕ
text_of digits = map (λ digit. digit + 48) digits

-- a PIN: 4 to 12 digits
abbrev pub IsPin : List ℕ → Type 0
IsPin pin = IsNumber 4 12 pin

-- an account number with its check digit, the last: 8 to 19 digits
abbrev pub IsAccountNumber : List ℕ → Type 0
IsAccountNumber account = IsNumber 8 19 account

-- the account number without its check digit
abbrev pub unchecked : List ℕ → List ℕ
unchecked account = take (length account - 1) account

-- the fault of a text that is to have a number of digits, if it has one: one for its length, then one
-- for its characters
abbrev pub number_fault : {E : Type 0} → ℕ → ℕ → E → E → List ℕ → Option E
number_fault least most length_fault digit_fault text =
    if not (nat_le least (length text) && nat_le (length text) most) then Some length_fault
    else if not (are_digits text) then Some digit_fault
    else None
