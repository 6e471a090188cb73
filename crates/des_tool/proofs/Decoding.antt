-- What digits decode to.
use Rattle.std.proofs.Common.{◌≡◌, ℕ, ◌+◌, ◌*◌, ◌%◌, ◌<◌, true, List, [], ◌∷◌, ◌++◌, length, Option, Some, None, unwrap_or, is_some, Result, Ok, Err, MatchResult, refl, ap, ◌∙◌, arith}
use Rattle.std.specs.List.{AllPass}
use Rattle.std.proofs.lemmas.List.Elements.{All-head, All-tail, All-from_get_or}
use Rattle.std.proofs.lemmas.Result.{MatchResult-at_ok}
use Rattle.hex.specs.declared.error.FromHexError.{FromHexError}
use Rattle.hex.specs.Hex.{decode_pairs, decode_sized, digit_or_error, hex_digit_value, is_hex_digit, pair_value, value_at}
use Rattle.hex.proofs.HexLemmas.{decode_pairs-ok}
use Rattle.hex.proofs.Pairs.{cons_byte, decode_pairs-ok_pair, decode_sized-pairs}
use Rattle.des.specs.Blocks.{IsKey}
use Rattle.des_tool.specs.Digits.{bytes_of_digits, digit_value}

-- a digit is read as its value
digit_or_error-digit : (c i : ℕ) (value : Option ℕ) → is_some value ≡ true
    → digit_or_error c i value ≡ Ok (unwrap_or value 0)
digit_or_error-digit c i (Some v) digit = refl
digit_or_error-digit c i None digit = cc digit

-- pairs of digits decode to their bytes
decode_pairs-digits : (i : ℕ) (s : List ℕ) → length s % 2 ≡ 0 → AllPass is_hex_digit s
    → decode_pairs i s ≡ Ok (bytes_of_digits s)
unfolding decode_pairs bytes_of_digits
decode_pairs-digits i [] even digits = refl
decode_pairs-digits i (a ∷ []) even digits = absurd (omega arith)
decode_pairs-digits i (a ∷ b ∷ rest) even digits =
    let P : ℕ → Type 0 = λ c. is_hex_digit c ≡ true in
    let others = All-tail P a (b ∷ rest) digits in
    let high : value_at a i ≡ Ok (digit_value a) =
    digit_or_error-digit a i (hex_digit_value a) (All-head P a (b ∷ rest) digits) in
    let low : value_at b (i + 1) ≡ Ok (digit_value b) =
    digit_or_error-digit b (i + 1) (hex_digit_value b) (All-head P b rest others) in
    let pair : pair_value a b i ≡ Ok (digit_value a * 16 + digit_value b) = rw (high, low) refl in
    decode_pairs-ok_pair i a b (digit_value a * 16 + digit_value b) rest pair
    ∙ ap (cons_byte (digit_value a * 16 + digit_value b))
    (decode_pairs-digits (i + 2) rest (omega arith) (All-tail P b rest others))

-- a call that decodes digits into a buffer for their bytes fills it with them
pub decoded_digits : (s : List ℕ) (n : ℕ) (r : Result Unit FromHexError) (out : List ℕ) → length s ≡ 2 * n
    → AllPass is_hex_digit s
    → MatchResult (decode_sized s n) (λ bytes. (r ≡ Ok tt) × (out ≡ bytes)) (λ e. r ≡ Err e)
    → (r ≡ Ok tt) × (out ≡ bytes_of_digits s)
decoded_digits s n r out count digits decoded =
    let even : length s % 2 ≡ 0 = omega arith in
    let pairs = decode_sized-pairs s n even (omega arith) ∙ decode_pairs-digits 0 s even digits in
    MatchResult-at_ok (λ bytes. (r ≡ Ok tt) × (out ≡ bytes)) (λ e. r ≡ Err e) (bytes_of_digits s) pairs decoded

-- twice as many digits write a key
pub IsKey-digits : (n : ℕ) (s : List ℕ) → length s ≡ 2 * n → AllPass is_hex_digit s → IsKey n (bytes_of_digits s)
IsKey-digits n s count digits =
    let ok = decode_pairs-ok 0 s (bytes_of_digits s) (decode_pairs-digits 0 s (omega arith) digits) in
    let twice = ok.1 in
    let width : length (bytes_of_digits s) ≡ n = omega arith in
    (width, All-from_get_or (λ number. number < 256) (bytes_of_digits s) 0 (λ i below. ok.2 i))

-- the bytes of digits, and then of more digits
pub bytes_of_digits-append : (s t : List ℕ) → length s % 2 ≡ 0
    → bytes_of_digits (s ++ t) ≡ bytes_of_digits s ++ bytes_of_digits t
unfolding bytes_of_digits
bytes_of_digits-append [] t even = refl
bytes_of_digits-append (a ∷ []) t even = absurd (omega arith)
bytes_of_digits-append (a ∷ b ∷ rest) t even =
    ap (λ (bytes : List ℕ). (digit_value a * 16 + digit_value b) ∷ bytes) (bytes_of_digits-append rest t (omega arith))
