-- The digits of bytes: those of two lists, those of a front, and one list for a text.
use Rattle.std.proofs.Common.{◌≡◌, ℕ, zero, suc, ◌*◌, ◌/◌, ◌%◌, ◌<◌, List, [], ◌∷◌, ◌++◌, length, take, drop, refl, ap, ap₂, ◌∙◌, arith}
use Rattle.std.proofs.lemmas.List.{take_all, drop_all}
use Rattle.std.proofs.lemmas.List.Elements.{All-head, All-tail}
use Rattle.des.specs.Blocks.{AreBytes}
use Rattle.des_key_blocks.specs.Hex.{hex_digit, hex_of}
use Rattle.des_key_blocks.proofs.HexNumbers.{hex_digit-injective}

pub hex_of-append : (front back : List ℕ) → hex_of (front ++ back) ≡ hex_of front ++ hex_of back
unfolding hex_of
hex_of-append [] back = refl
hex_of-append (byte ∷ front) back =
    ap (λ (text : List ℕ). hex_digit (byte / 16) ∷ hex_digit (byte % 16) ∷ text) (hex_of-append front back)

-- two digits of one byte
same-byte : (first second : ℕ) → first < 256 → second < 256 → hex_digit (first / 16) ≡ hex_digit (second / 16)
    → hex_digit (first % 16) ≡ hex_digit (second % 16) → first ≡ second
same-byte first second first_in second_in high low =
    let highs = hex_digit-injective (first / 16) (second / 16) (omega arith) (omega arith) high in
    let lows = hex_digit-injective (first % 16) (second % 16) (omega arith) (omega arith) low in
    omega arith

pub hex_of-injective : (first second : List ℕ) → AreBytes first → AreBytes second → hex_of first ≡ hex_of second
    → first ≡ second
unfolding hex_of
hex_of-injective [] [] first_in second_in same = refl
hex_of-injective [] (byte ∷ bytes) first_in second_in same = absurd (omega (arith, ap length same))
hex_of-injective (byte ∷ bytes) [] first_in second_in same = absurd (omega (arith, ap length same))
hex_of-injective (byte ∷ bytes) (other ∷ others) first_in second_in same =
    let high : hex_digit (byte / 16) ≡ hex_digit (other / 16) = cc same in
    let low : hex_digit (byte % 16) ≡ hex_digit (other % 16) = cc same in
    let back : hex_of bytes ≡ hex_of others = cc same in
    ap₂ ◌∷◌
    (same-byte byte other (All-head (λ number. number < 256) byte bytes first_in)
    (All-head (λ number. number < 256) other others second_in) high low)
    (hex_of-injective bytes others (All-tail (λ number. number < 256) byte bytes first_in)
    (All-tail (λ number. number < 256) other others second_in) back)

-- the digits of the first bytes, and of those after them
pub take-hex_of : (n : ℕ) (bytes : List ℕ) → take (2 * n) (hex_of bytes) ≡ hex_of (take n bytes)
unfolding hex_of
take-hex_of zero bytes = refl
take-hex_of (suc n) [] = take_all (2 * suc n) [] (omega arith)
take-hex_of (suc n) (byte ∷ bytes) =
    let twice : 2 * suc n ≡ suc (suc (2 * n)) = omega arith in
    ap (λ k. take k (hex_of (byte ∷ bytes))) twice
    ∙ ap (λ (text : List ℕ). hex_digit (byte / 16) ∷ hex_digit (byte % 16) ∷ text) (take-hex_of n bytes)

pub drop-hex_of : (n : ℕ) (bytes : List ℕ) → drop (2 * n) (hex_of bytes) ≡ hex_of (drop n bytes)
unfolding hex_of
drop-hex_of zero bytes = refl
drop-hex_of (suc n) [] = drop_all (2 * suc n) [] (omega arith)
drop-hex_of (suc n) (byte ∷ bytes) =
    let twice : 2 * suc n ≡ suc (suc (2 * n)) = omega arith in
    ap (λ k. drop k (hex_of (byte ∷ bytes))) twice ∙ drop-hex_of n bytes
