-- Bytes in hexadecimal digits: one byte more.
use Rattle.std.proofs.Common.{◌≡◌, ℕ, zero, suc, ◌+◌, ◌*◌, ◌/◌, ◌%◌, ◌<◌, List, [], ◌∷◌, ◌++◌, length, take, set, get_or, refl, sym, ap, ap₂, ◌∙◌, append_assoc, length-set, arith}
use Rattle.std.proofs.lemmas.List.{take_more, take_more_set}
use Rattle.std.proofs.lemmas.List.Elements.{All-head, All-tail}
use Rattle.des.specs.Blocks.{AreBytes}
use Rattle.des_key_blocks.specs.Hex.{hex_digit, hex_of}

pub hex_of-more : (bytes : List ℕ) (byte : ℕ)
    → hex_of (bytes ++ byte ∷ []) ≡ hex_of bytes ++ (hex_digit (byte / 16) ∷ hex_digit (byte % 16) ∷ [])
unfolding hex_of
hex_of-more [] byte = refl
hex_of-more (first ∷ bytes) byte =
    ap (λ (digits : List ℕ). hex_digit (first / 16) ∷ hex_digit (first % 16) ∷ digits) (hex_of-more bytes byte)

-- two characters more
pub take-two : (text : List ℕ) (n : ℕ) → n + 1 < length text
    → take (n + 1 + 1) text ≡ take n text ++ (get_or text n 0 ∷ get_or text (n + 1) 0 ∷ [])
take-two text n within =
    take_more text (n + 1) 0 within
    ∙ ap (λ (front : List ℕ). front ++ get_or text (n + 1) 0 ∷ []) (take_more text n 0 (omega arith))
    ∙ append_assoc (take n text) (get_or text n 0 ∷ []) (get_or text (n + 1) 0 ∷ [])

-- two characters that are written
pub take-two_set : (text : List ℕ) (n x y : ℕ) → n + 1 < length text
    → take (n + 1 + 1) (set (set text n x) (n + 1) y) ≡ take n text ++ (x ∷ y ∷ [])
take-two_set text n x y within =
    take_more_set (set text n x) (n + 1) y (omega (arith, length-set text n x))
    ∙ ap (λ (front : List ℕ). front ++ y ∷ []) (take_more_set text n x (omega arith))
    ∙ append_assoc (take n text) (x ∷ []) (y ∷ [])

-- one byte more is two characters more
pub hex_of-step : (bytes text : List ℕ) (i : ℕ) → i < length bytes → length text ≡ 2 * length bytes
    → hex_of (take i bytes) ≡ take (2 * i) text
    → take (2 * (i + 1)) (set (set text (2 * i) (hex_digit (get_or bytes i 0 / 16))) (2 * i + 1)
    (hex_digit (get_or bytes i 0 % 16))) ≡ hex_of (take (i + 1) bytes)
hex_of-step bytes text i within twice so_far =
    let byte : ℕ = get_or bytes i 0 in
    let next : 2 * (i + 1) ≡ 2 * i + 1 + 1 = omega arith in
    let high : ℕ = hex_digit (byte / 16) in
    let low : ℕ = hex_digit (byte % 16) in
    ap (λ n. take n (set (set text (2 * i) high) (2 * i + 1) low)) next
    ∙ take-two_set text (2 * i) high low (omega arith)
    ∙ ap (λ (front : List ℕ). front ++ (high ∷ low ∷ [])) (sym so_far)
    ∙ sym (hex_of-more (take i bytes) byte) ∙ ap hex_of (sym (take_more bytes i 0 within))

-- two characters that are digits are one byte more
pub hex_of-read : (bytes text : List ℕ) (i high low : ℕ) → i < length bytes → length text ≡ 2 * length bytes
    → high < 16 → low < 16 → hex_digit high ≡ get_or text (2 * i) 0 → hex_digit low ≡ get_or text (2 * i + 1) 0
    → hex_of (take i bytes) ≡ take (2 * i) text
    → hex_of (take (i + 1) (set bytes i (16 * high + low))) ≡ take (2 * (i + 1)) text
hex_of-read bytes text i high low within twice is_high is_low high_there low_there so_far =
    let byte : ℕ = 16 * high + low in
    let next : 2 * i + 1 + 1 ≡ 2 * (i + 1) = omega arith in
    let front : byte / 16 ≡ high = omega arith in
    let last : byte % 16 ≡ low = omega arith in
    ap hex_of (take_more_set bytes i byte within) ∙ hex_of-more (take i bytes) byte
    ∙ ap₂ (λ (a b : ℕ). hex_of (take i bytes) ++ (a ∷ b ∷ [])) (ap hex_digit front ∙ high_there)
    (ap hex_digit last ∙ low_there)
    ∙ ap (λ (before : List ℕ). before ++ (get_or text (2 * i) 0 ∷ get_or text (2 * i + 1) 0 ∷ [])) so_far
    ∙ sym (take-two text (2 * i) (omega arith)) ∙ ap (λ n. take n text) next

-- there are two characters for each byte
pub length-hex_of : (bytes : List ℕ) → length (hex_of bytes) ≡ 2 * length bytes
unfolding hex_of
length-hex_of [] = refl
length-hex_of (byte ∷ bytes) = omega (arith, length-hex_of bytes)

-- each character is one of a digit
pub hex_of-at : (bytes : List ℕ) (i : ℕ) → AreBytes bytes → i < 2 * length bytes
    → (digit : ℕ) × ((digit < 16) × (hex_digit digit ≡ get_or (hex_of bytes) i 0))
unfolding hex_of
hex_of-at [] i are within = absurd (omega arith)
hex_of-at (byte ∷ bytes) zero are within = (byte / 16, (omega (arith, All-head (λ number. number < 256) byte bytes are), refl))
hex_of-at (byte ∷ bytes) (suc zero) are within = (byte % 16, (omega arith, refl))
hex_of-at (byte ∷ bytes) (suc (suc i)) are within =
    hex_of-at bytes i (All-tail (λ number. number < 256) byte bytes are) (omega arith)
