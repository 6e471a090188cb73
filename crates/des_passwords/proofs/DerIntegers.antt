-- A number that is read is spelled in the fewest octets, and one that is so spelled is read.
use Rattle.std.proofs.Common.{◌≡◌, ◌∙◌, refl, sym, ap, subst, ℕ, zero, suc, ◌-◌, ◌<◌, ◌≤◌, ◌^◌, ◌&&◌, inl, inr, false, cond, eqb, ltb, List, [], ◌∷◌, ◌++◌, length, replicate, length-append, Ok, Err, arith}
use Rattle.std.proofs.lemmas.Bool.{cases_Bool, cases_lt, eqb-true, eqb-false, ltb-false, le-ltb, lt-ltb}
use Rattle.std.proofs.lemmas.Bool.Decides.{eqb_tells}
use Rattle.std.proofs.lemmas.List.{length-replicate}
use Rattle.std.proofs.lemmas.Nat.{be_bytes_4, from_be_bytes-to_be_bytes_4}
use Rattle.std.specs.Int.{w32, to_be_bytes, from_be_bytes}
use Rattle.des_passwords.specs.Der.{fewest, integer_octets, integer}
use Rattle.des_passwords.specs.DerReading.{◌>>=◌, digits_of, number_of, iterations_of, iterations_at, element_at}
use Rattle.des_passwords.specs.KeyFileFaults.{Structure, Iterations}
use Rattle.des_passwords.proofs.DerElements.{IsBytes, Takes, either, ok_is, no_fault, bind_ok, element_takes, element_again}

-- ---- what is read is so spelled

IsBytes-zeros : (n : ℕ) (xs : List ℕ) → IsBytes xs → IsBytes (replicate n 0 ++ xs)
IsBytes-zeros zero xs fits i = fits i
IsBytes-zeros (suc n) xs fits zero = omega arith
IsBytes-zeros (suc n) xs fits (suc i) = IsBytes-zeros n xs fits i

-- zeros before a zero fall away
fewest-zeros : (n : ℕ) (xs : List ℕ) → fewest (0 ∷ (replicate n 0 ++ xs)) ≡ fewest (0 ∷ xs)
unfolding fewest
fewest-zeros zero xs = refl
fewest-zeros (suc n) xs = fewest-zeros n xs

pub digits_take : (contents digits : List ℕ) → IsBytes contents → digits_of contents ≡ Ok digits
    → (contents ≡ fewest (0 ∷ digits)) × IsBytes digits
unfolding digits_of fewest
digits_take [] digits fits e = absurd (no_fault Structure digits e)
digits_take (first ∷ []) digits fits e =
    elim (either (ltb first 128) _ _ (Ok digits) e) [
      | inl low ↦ subst (λ (l : List ℕ). (first ∷ [] ≡ fewest (0 ∷ l)) × IsBytes l) (ok_is (first ∷ []) digits low.1)
          (rw low.0 refl, fits)
      | inr high ↦ absurd (no_fault Structure digits high.1)
    ]
digits_take (first ∷ second ∷ rest) digits fits e =
    elim (either (eqb first 0) _ _ (Ok digits) e) [
      | inl none ↦ elim (either (ltb second 128) _ _ (Ok digits) none.1) [
        | inl low ↦ absurd (no_fault Structure digits low.1)
        | inr high ↦
            subst (λ (l : List ℕ). (first ∷ second ∷ rest ≡ fewest (0 ∷ l)) × IsBytes l)
            (ok_is (second ∷ rest) digits high.1)
            (rw high.0 (ap (λ (n : ℕ). n ∷ second ∷ rest) (eqb-true first 0 none.0)), λ i. fits (suc i))
      ]
      | inr some ↦ elim (either (ltb first 128) _ _ (Ok digits) some.1) [
        | inl low ↦
            subst (λ (l : List ℕ). (first ∷ second ∷ rest ≡ fewest (0 ∷ l)) × IsBytes l)
            (ok_is (first ∷ second ∷ rest) digits low.1)
            (rw (low.0, some.0) refl, fits)
        | inr high ↦ absurd (no_fault Structure digits high.1)
      ]
    ]

-- a number of four digits at most is spelled by them
number_takes : (contents digits : List ℕ) → contents ≡ fewest (0 ∷ digits) → IsBytes digits → length digits ≤ 4
    → contents ≡ integer_octets (number_of digits)
number_takes contents digits parts fits short =
    let count = 4 - length digits in
    let whole = replicate count 0 ++ digits in
    let size : length whole ≡ 4 =
    omega (arith, length-append (replicate count 0) digits, length-replicate count zero) in
    parts
    ∙ sym (fewest-zeros count digits)
    ∙ ap (λ (l : List ℕ). fewest (0 ∷ l))
    (sym (be_bytes_4 whole (number_of digits) size (IsBytes-zeros count digits fits) refl))

-- a number that is taken for one of iterations
pub record AreIterations (most n : ℕ) : Type 0 where
  pub some : 0 < n
  pub few : n ≤ most

iterations_are : (most : ℕ) (digits : List ℕ) (n : ℕ) → iterations_of most digits ≡ Ok n
    → (length digits ≤ 4) × (number_of digits ≡ n) × AreIterations most n
unfolding iterations_of
iterations_are most digits n e =
    elim (either (ltb 4 (length digits)) _ _ (Ok n) e) [
      | inl long ↦ absurd (no_fault Iterations n long.1)
      | inr short ↦ elim (either (eqb (number_of digits) 0) _ _ (Ok n) short.1) [
        | inl none ↦ absurd (no_fault Iterations n none.1)
        | inr some ↦ elim (either (ltb most (number_of digits)) _ _ (Ok n) some.1) [
          | inl many ↦ absurd (no_fault Iterations n many.1)
          | inr few ↦
              let is : number_of digits ≡ n = ok_is (number_of digits) n few.1 in
              let above : number_of digits ≡ 0 → ⊥ = eqb-false (number_of digits) 0 some.0 in
              let below : number_of digits ≤ most = ltb-false most (number_of digits) few.0 in (
                ltb-false 4 (length digits) short.0,
                is,
                subst (AreIterations most) is (record { some = omega (arith, above); few = below }),
              )
        ]
      ]
    ]

pub iterations_take : (most : ℕ) (bytes : List ℕ) (x : ℕ × List ℕ) → IsBytes bytes → iterations_at most bytes ≡ Ok x
    → Takes bytes 0x02 (integer_octets x.0) x.1 × AreIterations most x.0
unfolding iterations_at
iterations_take most bytes x fits e =
    let a = bind_ok (element_at 2 bytes) (λ element. digits_of element.0 >>= λ digits.
    iterations_of most digits >>= λ n. Ok (n, element.1)) x e in
    let b = bind_ok (digits_of a.0.0) (λ digits. iterations_of most digits >>= λ n. Ok (n, a.0.1)) x a.2 in
    let d = bind_ok (iterations_of most b.0) (λ n. Ok (n, a.0.1)) x b.2 in
    let taken = element_takes 2 bytes a.0 fits a.1 in
    let digits = digits_take a.0.0 b.0 taken.contents_fit b.1 in
    let number = iterations_are most b.0 d.0 d.1 in
    let octets : a.0.0 ≡ integer_octets d.0 =
    number_takes a.0.0 b.0 digits.0 digits.1 number.0 ∙ ap integer_octets number.1 in
    subst (λ (y : ℕ × List ℕ). Takes bytes 0x02 (integer_octets y.0) y.1 × AreIterations most y.0)
    (ok_is (d.0, a.0.1) x d.2)
    (subst (λ (l : List ℕ). Takes bytes 0x02 l a.0.1) octets taken, number.2)

-- ---- what is so spelled is read

-- the digits that are read, and the zeros before them
pub record Digits (all digits : List ℕ) : Type 0 where
  pub read : digits_of (fewest (0 ∷ all)) ≡ Ok digits
  pub zeros : replicate (length all - length digits) 0 ++ digits ≡ all
  pub few : length digits ≤ length all

-- no zero before the digits
no_zeros : (digits : List ℕ) → replicate (length digits - length digits) 0 ++ digits ≡ digits
no_zeros digits =
    let none : length digits - length digits ≡ 0 = omega arith in
    ap (λ (n : ℕ). replicate n 0 ++ digits) none

all_digits : (all : List ℕ) → digits_of (fewest (0 ∷ all)) ≡ Ok all → Digits all all
all_digits all read = record { read = read; zeros = no_zeros all; few = omega arith }

-- a zero more
zero_more : (all digits : List ℕ) → fewest (0 ∷ 0 ∷ all) ≡ fewest (0 ∷ all) → Digits all digits
    → Digits (0 ∷ all) digits
zero_more all digits same d =
    let count : length (0 ∷ all) - length digits ≡ suc (length all - length digits) = omega (arith, d.few) in
    record {
      read = ap digits_of same ∙ d.read;
      zeros =
          ap (λ (n : ℕ). replicate n 0 ++ digits) count
          ∙ ap (λ (l : List ℕ). 0 ∷ l) d.zeros;
      few = omega (arith, d.few);
    }

digits_again : (first : ℕ) (rest : List ℕ) → (digits : List ℕ) × Digits (first ∷ rest) digits
unfolding digits_of fewest
digits_again first [] =
    elim (cases_lt first 128) [
      | inl low ↦ (first ∷ [], all_digits (first ∷ []) (rw (lt-ltb first 128 low) (rw (lt-ltb first 128 low) refl)))
      | inr high ↦ (first ∷ [], all_digits (first ∷ []) (rw (le-ltb first 128 high) (rw (le-ltb first 128 high) refl)))
    ]
digits_again first (second ∷ rest) =
    let all : List ℕ = first ∷ second ∷ rest in
    elim (cases_lt first 128) [
      | inr high ↦ (all, all_digits all (rw (le-ltb first 128 high) (rw (le-ltb first 128 high) refl)))
      | inl low ↦ elim (eqb_tells first 0) [
        | inl none ↦
            let others = digits_again second rest in
            subst (λ (n : ℕ). (digits : List ℕ) × Digits (n ∷ second ∷ rest) digits) (sym none.1)
            (others.0, zero_more (second ∷ rest) others.0 refl others.1)
        | inr some ↦ (all, all_digits all (rw (lt-ltb first 128 low, some.0) (rw (some.0, lt-ltb first 128 low) refl)))
      ]
    ]

list_again : (all : List ℕ) → 0 < length all → (digits : List ℕ) × Digits all digits
list_again [] some = absurd (omega (arith, some))
list_again (first ∷ rest) some = digits_again first rest

length-fewest : (xs : List ℕ) → length (fewest xs) ≤ length xs
unfolding fewest
length-fewest [] = omega arith
length-fewest (first ∷ []) = omega arith
length-fewest (first ∷ second ∷ rest) =
    elim (cases_Bool (eqb first 0 && ltb second 128)) [
      | inl few ↦ rw few (omega (arith, length-fewest (second ∷ rest)))
      | inr all ↦ rw all (omega arith)
    ]

-- the digits of a number
pub record DigitsOf (n : ℕ) (digits : List ℕ) : Type 0 where
  pub read : digits_of (integer_octets n) ≡ Ok digits
  pub short : length digits ≤ 4
  pub number : number_of digits ≡ n

integer_again : (n : ℕ) → n < 2 ^ 32 → (digits : List ℕ) × DigitsOf n digits
integer_again n small =
    let all : List ℕ = to_be_bytes w32 n in
    let size : length all ≡ 4 = refl in
    let d = list_again all (omega (arith, size)) in (
      d.0,
      record {
        read = d.1.read;
        short = omega (arith, size, d.1.few);
        number =
            ap (λ (m : ℕ). from_be_bytes w32 (replicate (m - length d.0) 0 ++ d.0)) (sym size)
            ∙ ap (from_be_bytes w32) d.1.zeros
            ∙ from_be_bytes-to_be_bytes_4 n small;
      },
    )

-- the tests of a number of iterations
tests_again : (most m n : ℕ) → m ≡ n → AreIterations most n
    → cond (eqb m 0) (Err Iterations) (cond (ltb most m) (Err Iterations) (Ok m)) ≡ Ok n
tests_again most m n is are =
    let some : eqb m 0 ≡ false =
    elim (eqb_tells m 0) [
      | inl none ↦ absurd (omega (arith, none.1, is, are.some))
      | inr not ↦ not.0
    ] in
    let few : ltb most m ≡ false = le-ltb most m (omega (arith, is, are.few)) in
    rw (some, few) (ap (λ (k : ℕ). Ok k) is)

iterations_of_again : (most : ℕ) (digits : List ℕ) (n : ℕ) → length digits ≤ 4 → number_of digits ≡ n
    → AreIterations most n → iterations_of most digits ≡ Ok n
unfolding iterations_of
iterations_of_again most digits n short is are =
    rw (le-ltb 4 (length digits) short) (tests_again most (number_of digits) n is are)

pub iterations_again : (most n : ℕ) (rest : List ℕ) → AreIterations most n → most < 2 ^ 32
    → iterations_at most (integer n ++ rest) ≡ Ok (n, rest)
unfolding iterations_at
iterations_again most n rest are bound =
    let small : n < 2 ^ 32 = omega (arith, are.few, bound) in
    let digits = integer_again n small in
    let longest : length (integer_octets n) ≤ 5 = length-fewest (0 ∷ to_be_bytes w32 n) in
    rw (
      element_again 2 (integer_octets n) rest (omega (arith, longest)),
      digits.1.read,
      iterations_of_again most digits.0 n digits.1.short digits.1.number are,
    ) refl
