-- Two rows whose words exchange bits.
use Rattle.std.proofs.Common.{◌≡◌, ℕ, zero, suc, ◌+◌, ◌-◌, ◌*◌, ◌/◌, ◌%◌, ◌^◌, ◌<◌, ◌≤◌, ◌==◌, Bool, true, false, not, ◌&&◌, nat_lt, List, [], ◌∷◌, length, get_or, replicate, bit_and, bit_xor, refl, ap, ap₂, sym, subst, ◌∙◌, arith, ◌≢◌, inl, inr}
use Rattle.std.specs.Simd.Lanes.{zip2}
use Rattle.std.proofs.lemmas.Bool.{cases_Bool, and_parts, eqb-true, eqb-false, ltb-true, ltb-false, not-true, cond-true, cond-false}
use Rattle.des_fast.specs.Slices.{number_in_word, bit_at_place}
use Rattle.des_fast.specs.Transposition.{second, pairs_place, pairs_places, exchanged, ArePairwise}
use Rattle.des_fast.proofs.RangeTests.{at_range}
use Rattle.des_fast.proofs.SliceBits.{bit_in}
use Rattle.des_fast.proofs.Exchanges.{upper, lower, upper-first, upper-second, lower-first, lower-second}

-- row m of a list
abbrev row : List (List ℕ) → ℕ → List ℕ
row rows m = get_or rows m []

-- the first row with the change
abbrev pub upper_row : ℕ → ℕ → ℕ → List ℕ → List ℕ → List ℕ
upper_row n d m xs ys =
    zip2 bit_xor xs (zip2 bit_and (zip2 bit_xor xs (zip2 (λ y k. y / 2 ^ k) ys (replicate n d))) (replicate n m))

-- the second row with the change
abbrev pub lower_row : ℕ → ℕ → ℕ → List ℕ → List ℕ → List ℕ
lower_row n d m xs ys =
    zip2 bit_xor ys
    (zip2 (λ x k. x * 2 ^ k % 2 ^ 64)
    (zip2 bit_and (zip2 bit_xor xs (zip2 (λ y k. y / 2 ^ k) ys (replicate n d))) (replicate n m))
    (replicate n d))

-- in each word of two rows
words-exchanged : (n d m : ℕ) (xs ys : List ℕ) (lane : ℕ) → length xs ≡ n → length ys ≡ n → lane < n
    → (get_or (upper_row n d m xs ys) lane 0 ≡ upper d m (get_or xs lane 0) (get_or ys lane 0))
    × (get_or (lower_row n d m xs ys) lane 0 ≡ lower d m (get_or xs lane 0) (get_or ys lane 0))
words-exchanged zero d m xs ys lane p q within = absurd (omega arith)
words-exchanged (suc n) d m [] ys lane p q within = absurd (omega arith)
words-exchanged (suc n) d m (x ∷ xs) [] lane p q within = absurd (omega arith)
words-exchanged (suc n) d m (x ∷ xs) (y ∷ ys) zero p q within = (refl, refl)
words-exchanged (suc n) d m (x ∷ xs) (y ∷ ys) (suc lane) p q within =
    words-exchanged n d m xs ys lane (omega arith) (omega arith) (omega arith)

-- a remainder by two
pub mod-lt_two : (n : ℕ) → n % 2 < 2
mod-lt_two n = omega arith

-- what the test of a distance and a mask says of a place that is second in its pair, and of one that is first
abbrev second_test : ℕ → ℕ → ℕ → Bool
second_test d m place =
    (bit_in m (number_in_word place) && not (bit_in m (number_in_word place + d)))
    && (not (nat_lt place d) && (number_in_word (place - d) + d == number_in_word place))

abbrev first_test : ℕ → ℕ → ℕ → Bool
first_test d m place =
    (not (bit_in m (number_in_word place)) && bit_in m (number_in_word place + d))
    && (nat_lt (place + d) 64 && (number_in_word (place + d) == number_in_word place + d))

-- bits of one word, by their places
bit_in-near : (slice : List ℕ) (b c number : ℕ) → c / 64 ≡ b / 64 → number_in_word c ≡ number
    → bit_in (get_or slice (b / 64) 0) number ≡ bit_at_place c slice
bit_in-near slice b c number same here =
    ap₂ (λ (l p : ℕ). bit_in (get_or slice l 0) p) (sym same) (sym here)

-- the two rows have their bits b exchanged, if bit b is second in its pair (t is 1) or first (t is 0)
abbrev AreExchangedAt : ℕ → List ℕ → List ℕ → List ℕ → List ℕ → ℕ → ℕ → Type 0
AreExchangedAt d xs ys above below b t =
    (bit_at_place b above ≡ bit_at_place (b - d * t + d * 0) (row (xs ∷ ys ∷ []) (1 * t + 0)))
    × (bit_at_place b below ≡ bit_at_place (b - d * t + d * 1) (row (xs ∷ ys ∷ []) (1 * t + 0)))

-- a bit of one of two rows, by the bits of both
pub row-bit : (xs ys : List ℕ) (c t : ℕ) → t < 2
    → bit_at_place c (get_or (xs ∷ ys ∷ []) (1 * t + 0) [])
    ≡ get_or (bit_at_place c xs ∷ bit_at_place c ys ∷ []) (1 * t + 0) false
row-bit xs ys c zero below = refl
row-bit xs ys c (suc zero) below = refl
row-bit xs ys c (suc (suc t)) below = absurd (omega arith)

-- at a bit that is second
exchanged-second : (n d m : ℕ) (xs ys : List ℕ) (b : ℕ) → d < 64 → length xs ≡ n → length ys ≡ n → b < 64 * n
    → second_test d m (b % 64) ≡ true
    → AreExchangedAt d xs ys (upper_row n d m xs ys) (lower_row n d m xs ys) b 1
exchanged-second n d m xs ys b small p q within test =
    let place : ℕ = b % 64 in
    let number : ℕ = number_in_word place in
    let x : ℕ = get_or xs (b / 64) 0 in
    let y : ℕ = get_or ys (b / 64) 0 in
    let inside : number < 64 = omega arith in
    let own : number_in_word b ≡ number = omega arith in
    let made = words-exchanged n d m xs ys (b / 64) p q (omega arith) in
    let outer =
    and_parts (bit_in m number && not (bit_in m (number + d)))
    (not (nat_lt place d) && (number_in_word (place - d) + d == number)) test in
    let masked = and_parts (bit_in m number) (not (bit_in m (number + d))) outer.0 in
    let near = and_parts (not (nat_lt place d)) (number_in_word (place - d) + d == number) outer.1 in
    let after : d ≤ place = ltb-false place d (not-true _ near.0) in
    let partner : number_in_word (place - d) + d ≡ number = eqb-true _ _ near.1 in
    let other : number_in_word (b - d * 1 + d * 0) ≡ number_in_word (place - d) = omega arith in (
      ap₂ bit_in made.0 own
          ∙ upper-second d m x y number inside (omega arith) masked.0
          ∙ bit_in-near ys b (b - d * 1 + d * 0) (number - d) (omega arith) (omega arith),
      ap₂ bit_in made.1 own
          ∙ lower-second d m x y number small inside (not-true _ masked.1)
          ∙ bit_in-near ys b (b - d * 1 + d * 1) number (omega arith) (ap number_in_word (omega arith) ∙ own),
    )

-- at a bit that is first
exchanged-first : (n d m : ℕ) (xs ys : List ℕ) (b : ℕ) → d < 64 → length xs ≡ n → length ys ≡ n → b < 64 * n
    → first_test d m (b % 64) ≡ true
    → AreExchangedAt d xs ys (upper_row n d m xs ys) (lower_row n d m xs ys) b 0
exchanged-first n d m xs ys b small p q within test =
    let place : ℕ = b % 64 in
    let number : ℕ = number_in_word place in
    let x : ℕ = get_or xs (b / 64) 0 in
    let y : ℕ = get_or ys (b / 64) 0 in
    let inside : number < 64 = omega arith in
    let own : number_in_word b ≡ number = omega arith in
    let made = words-exchanged n d m xs ys (b / 64) p q (omega arith) in
    let outer =
    and_parts (not (bit_in m number) && bit_in m (number + d))
    (nat_lt (place + d) 64 && (number_in_word (place + d) == number + d)) test in
    let masked = and_parts (not (bit_in m number)) (bit_in m (number + d)) outer.0 in
    let near = and_parts (nat_lt (place + d) 64) (number_in_word (place + d) == number + d) outer.1 in
    let below_end : place + d < 64 = ltb-true _ _ near.0 in
    let partner : number_in_word (place + d) ≡ number + d = eqb-true _ _ near.1 in
    let other : number_in_word (b - d * 0 + d * 1) ≡ number_in_word (place + d) = omega arith in (
      ap₂ bit_in made.0 own
          ∙ upper-first d m x y number inside (not-true _ masked.0)
          ∙ bit_in-near xs b (b - d * 0 + d * 0) number (omega arith) (ap number_in_word (omega arith) ∙ own),
      ap₂ bit_in made.1 own
          ∙ lower-first d m x y number small inside masked.1
          ∙ bit_in-near xs b (b - d * 0 + d * 1) (number + d) (omega arith) (other ∙ partner),
    )

-- at each bit
exchanged-at : (n d m : ℕ) (xs ys : List ℕ) (b : ℕ) → d < 64 → length xs ≡ n → length ys ≡ n → b < 64 * n
    → pairs_place d m (b % 64) ≡ true
    → AreExchangedAt d xs ys (upper_row n d m xs ys) (lower_row n d m xs ys) b (second d b)
exchanged-at n d m xs ys b small p q within tested =
    let At : ℕ → Type 0 = λ t. AreExchangedAt d xs ys (upper_row n d m xs ys) (lower_row n d m xs ys) b t in
    elim (cases_Bool (second d b == 1)) [
      | inl one ↦
          let test : second_test d m (b % 64) ≡ true = sym (cond-true _ _ _ one) ∙ tested in
          subst At (sym (eqb-true _ _ one)) (exchanged-second n d m xs ys b small p q within test)
      | inr none ↦
          let test : first_test d m (b % 64) ≡ true = sym (cond-false _ _ _ none) ∙ tested in
          let differs : second d b ≢ 1 = eqb-false _ _ none in
          let low : second d b < 2 = mod-lt_two (b % 64 / d) in
          let is_first : second d b ≡ 0 = omega arith in
          subst At (sym is_first) (exchanged-first n d m xs ys b small p q within test)
    ]

-- the rows exchange bits at a distance
pub ArePairwise-exchanged : (n d m : ℕ) (xs ys : List ℕ) → d < 64 → pairs_places d m ≡ true → length xs ≡ n
    → length ys ≡ n
    → ArePairwise (64 * n) bit_at_place 1 (exchanged d) (xs ∷ ys ∷ [])
    (upper_row n d m xs ys ∷ lower_row n d m xs ys ∷ [])
ArePairwise-exchanged n d m xs ys small pairs p q zero below b within =
    (exchanged-at n d m xs ys b small p q within (at_range (pairs_place d m) 64 (b % 64) pairs (omega arith))).0
    ∙ row-bit xs ys _ _ (mod-lt_two (b % 64 / d))
ArePairwise-exchanged n d m xs ys small pairs p q (suc zero) below b within =
    (exchanged-at n d m xs ys b small p q within (at_range (pairs_place d m) 64 (b % 64) pairs (omega arith))).1
    ∙ row-bit xs ys _ _ (mod-lt_two (b % 64 / d))
ArePairwise-exchanged n d m xs ys small pairs p q (suc (suc k)) below b within = absurd (omega arith)
