-- The check digit of an account number (ISO/IEC 7812-1, Annex B, the Luhn formula).
use Rattle.std.specs.Prelude.{ℕ, ◌+◌, ◌-◌, ◌*◌, ◌/◌, ◌%◌, ◌==◌, ◌&&◌, nat_le, Bool, not, if◌then◌else◌, List, [], ◌∷◌, length}
use Rattle.des_payment.specs.Texts.{are_digits}

-- the value of a decimal digit
abbrev pub value_of : ℕ → ℕ
value_of digit = digit - 48

-- the digits of the double of a digit, added together
abbrev pub doubled : ℕ → ℕ
doubled value = 2 * value / 10 + 2 * value % 10

-- from the right, the check digit being the first, each second digit is doubled: those that an odd
-- number of digits follows
abbrev pub weighed : ℕ → ℕ → ℕ
weighed following value = if following % 2 == 0 then value else doubled value

-- the sum of the digits, so weighed
abbrev pub luhn_sum : List ℕ → ℕ
luhn_sum [] = 0
luhn_sum (digit ∷ rest) = weighed (length rest) (value_of digit) + luhn_sum rest

-- the last digit is the check digit: it makes the sum a multiple of ten
abbrev pub has_check_digit : List ℕ → Bool
has_check_digit digits = luhn_sum digits % 10 == 0

-- a text is an account number: 8 to 19 digits
abbrev pub is_account : List ℕ → Bool
is_account text = nat_le 8 (length text) && (nat_le (length text) 19 && are_digits text)

-- it is one, and its last digit is not its check digit
abbrev pub lacks_check_digit : List ℕ → Bool
lacks_check_digit text = is_account text && not (has_check_digit text)
