-- Digits of bytes, place by place.
use Rattle.std.proofs.Common.{◌≡◌, ℕ, suc, ◌+◌, ◌*◌, ◌/◌, ◌%◌, ◌<◌, List, [], ◌∷◌, length, get_or, refl, sym, ap, ap₂, ◌∙◌, arith}
use Rattle.std.specs.List.{All}
use Rattle.std.proofs.lemmas.List.Elements.{All-nil, All-cons}
use Rattle.des_payment.specs.Digits.{digits_of, bytes_of}

-- the digits of bytes are those at places 2 k and 2 k + 1 that the byte at k has
pub digits_of-from_places : (digits bytes : List ℕ) → length digits ≡ 2 * length bytes
    → ((k : ℕ) → k < length bytes
    → (get_or digits (2 * k) 0 ≡ get_or bytes k 0 / 16) × (get_or digits (2 * k + 1) 0 ≡ get_or bytes k 0 % 16))
    → digits ≡ digits_of bytes
unfolding digits_of
digits_of-from_places [] [] count each = refl
digits_of-from_places (digit ∷ digits) [] count each = absurd (omega arith)
digits_of-from_places [] (byte ∷ bytes) count each = absurd (omega arith)
digits_of-from_places (digit ∷ []) (byte ∷ bytes) count each = absurd (omega arith)
digits_of-from_places (high ∷ low ∷ digits) (byte ∷ bytes) count each =
    let first = each 0 (omega arith) in
    let rest = digits_of-from_places digits bytes (omega arith) (λ k within.
    let there = each (suc k) (omega arith) in
    let even : 2 * suc k ≡ suc (suc (2 * k)) = omega arith in
    let odd : 2 * suc k + 1 ≡ suc (suc (2 * k + 1)) = omega arith in (
      sym (ap (λ (n : ℕ). get_or (high ∷ low ∷ digits) n 0) even) ∙ there.0,
      sym (ap (λ (n : ℕ). get_or (high ∷ low ∷ digits) n 0) odd) ∙ there.1,
    )) in
    ap₂ (λ (x : ℕ) (y : List ℕ). x ∷ y) first.0 (ap₂ (λ (x : ℕ) (y : List ℕ). x ∷ y) first.1 rest)

-- bytes with the same digits are the same
pub digits_of-injective : (bytes others : List ℕ) → digits_of bytes ≡ digits_of others → bytes ≡ others
unfolding digits_of
digits_of-injective [] [] same = refl
digits_of-injective [] (other ∷ others) same = cc
digits_of-injective (byte ∷ bytes) [] same = cc
digits_of-injective (byte ∷ bytes) (other ∷ others) same =
    let high : byte / 16 ≡ other / 16 = cc in
    let low : byte % 16 ≡ other % 16 = cc in
    let rest : digits_of bytes ≡ digits_of others = cc in
    let first : byte ≡ other = omega arith in
    ap₂ (λ (x : ℕ) (xs : List ℕ). x ∷ xs) first (digits_of-injective bytes others rest)

-- there are two digits for each byte
pub length-digits_of : (bytes : List ℕ) → length (digits_of bytes) ≡ 2 * length bytes
unfolding digits_of
length-digits_of [] = refl
length-digits_of (byte ∷ bytes) = omega (arith, length-digits_of bytes)

-- the bytes of the digits of bytes
pub bytes_of-digits_of : (bytes : List ℕ) → bytes_of (digits_of bytes) ≡ bytes
unfolding digits_of bytes_of
bytes_of-digits_of [] = refl
bytes_of-digits_of (byte ∷ bytes) =
    let first : 16 * (byte / 16) + byte % 16 ≡ byte = omega arith in
    ap₂ (λ (x : ℕ) (xs : List ℕ). x ∷ xs) first (bytes_of-digits_of bytes)

-- the digits of bytes are below sixteen
pub digits_of-below : (bytes : List ℕ) → All (λ byte. byte < 256) bytes → All (λ digit. digit < 16) (digits_of bytes)
unfolding digits_of
digits_of-below [] small = All-nil (λ digit. digit < 16)
digits_of-below (byte ∷ bytes) small =
    let first : byte < 256 = small 0 0 (omega arith) in
    let rest = digits_of-below bytes (λ i d within. small (suc i) d (omega arith)) in
    All-cons (λ digit. digit < 16) (byte / 16) (byte % 16 ∷ digits_of bytes) (omega arith)
    (All-cons (λ digit. digit < 16) (byte % 16) (digits_of bytes) (omega arith) rest)
