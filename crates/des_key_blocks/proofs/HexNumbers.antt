-- A number in hexadecimal digits: one digit more, and one number for a text.
use Rattle.std.proofs.Common.{◌≡◌, ℕ, zero, suc, ◌+◌, ◌*◌, ◌/◌, ◌%◌, ◌^◌, ◌<◌, inl, inr, List, [], ◌∷◌, ◌++◌, length, get_or, refl, sym, ap, ◌∙◌, subst, add-one, arith}
use Rattle.std.proofs.Math.Nat.{pow-suc}
use Rattle.std.proofs.lemmas.Bool.{cases_lt}
use Rattle.std.proofs.lemmas.Bool.Decides.{nat_tests}
use Rattle.std.proofs.lemmas.List.{length_push, get_or_push, get_or_append_left, same_from_push}
use Rattle.des_key_blocks.specs.Hex.{hex_digit, hex_number}

pub length-hex_number : (n number : ℕ) → length (hex_number n number) ≡ n
unfolding hex_number
length-hex_number zero number = refl
length-hex_number (suc n) number =
    omega (arith, length_push (hex_number n (number / 16)) (hex_digit (number % 16)), length-hex_number n (number / 16))

-- four digits are two and two
pub hex_number-four : (number : ℕ) → hex_number 4 number ≡ hex_number 2 (number / 256) ++ hex_number 2 number
unfolding hex_number
hex_number-four number =
    let high : number / 16 / 16 ≡ number / 256 = omega arith in
    ap (λ (n : ℕ). hex_number 2 n ++ hex_number 2 number) high

-- two digits of one character are one
pub hex_digit-injective : (a b : ℕ) → a < 16 → b < 16 → hex_digit a ≡ hex_digit b → a ≡ b
hex_digit-injective a b a_in b_in same = grind (arith, nat_tests)

-- the digits of a number with one more
pub hex_number-more : (n number digit : ℕ) → digit < 16
    → hex_number (n + 1) (16 * number + digit) ≡ hex_number n number ++ hex_digit digit ∷ []
unfolding hex_number
hex_number-more n number digit is_digit =
    let front : (16 * number + digit) / 16 ≡ number = omega arith in
    let last : (16 * number + digit) % 16 ≡ digit = omega arith in
    rw (add-one, hex_number, front, last)

pub within-more : (n number digit : ℕ) → number < 16 ^ n → digit < 16 → 16 * number + digit < 16 ^ (n + 1)
within-more n number digit within is_digit = rw (add-one, pow-suc) (omega arith)

-- two numbers of one text are one
pub hex_number-injective : (n a b : ℕ) → a < 16 ^ n → b < 16 ^ n → hex_number n a ≡ hex_number n b → a ≡ b
unfolding hex_number
hex_number-injective zero a b a_in b_in same = omega arith
hex_number-injective (suc n) a b a_in b_in same =
    let parts = same_from_push (hex_number n (a / 16)) (hex_number n (b / 16)) (hex_digit (a % 16))
    (hex_digit (b % 16)) same in
    let fronts : a / 16 ≡ b / 16 = hex_number-injective n (a / 16) (b / 16)
    (omega (arith, pow-suc 16 n)) (omega (arith, pow-suc 16 n)) parts.0 in
    let lasts : a % 16 ≡ b % 16 = hex_digit-injective (a % 16) (b % 16) (omega arith) (omega arith) parts.1 in
    omega arith

-- the number that a text of `n` digits was found to be is written by that text
pub number-at : (n number : ℕ) (part : List ℕ) → length part ≡ n → hex_number (length part) number ≡ part
    → hex_number n number ≡ part
number-at n number part count is = subst (λ k. hex_number k number ≡ part) count is

pub number-within : (n number : ℕ) (part : List ℕ) → length part ≡ n → number < 16 ^ length part → number < 16 ^ n
number-within n number part count within = subst (λ k. number < 16 ^ k) count within

pub number-same : (n found other : ℕ) (part : List ℕ) → length part ≡ n → found < 16 ^ length part
    → hex_number (length part) found ≡ part → other < 16 ^ n → hex_number n other ≡ part → found ≡ other
number-same n found other part count within is other_within other_is =
    hex_number-injective n found other (number-within n found part count within) other_within
    (number-at n found part count is ∙ sym other_is)

pub number-none : (n other : ℕ) (part : List ℕ) → length part ≡ n
    → ((number : ℕ) → hex_number (length part) number ≡ part → ⊥) → hex_number n other ≡ part → ⊥
number-none n other part count none other_is =
    none other (subst (λ k. hex_number k other ≡ part) (sym count) other_is)

-- each character is one of a digit
pub hex_number-at : (n number i : ℕ) → i < n
    → (digit : ℕ) × (digit < 16) × (hex_digit digit ≡ get_or (hex_number n number) i 0)
unfolding hex_number
hex_number-at zero number i within = absurd (omega arith)
hex_number-at (suc n) number i within =
    let count : length (hex_number n (number / 16)) ≡ n = length-hex_number n (number / 16) in
    elim (cases_lt i n) [
      | inl front ↦
          let before = hex_number-at n (number / 16) i front in
          (before.0, before.1, before.2 ∙ sym (get_or_append_left (hex_number n (number / 16)) _ 0 i (omega arith)))
      | inr last ↦ (
        number % 16,
        omega arith,
        sym (get_or_push (hex_number n (number / 16)) (hex_digit (number % 16)) 0 i
            (omega arith)),
      )
    ]
