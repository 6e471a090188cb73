-- Digits as one number, of which each is a quotient, and two such numbers one after the other.
use Rattle.std.proofs.Common.{◌≡◌, ℕ, ◌+◌, ◌-◌, ◌*◌, ◌/◌, ◌%◌, ◌^◌, ◌<◌, ◌≤◌, inl, inr, List, ◌++◌, false, if◌then◌else◌, nat_lt, length, take, get_or, sym, ap, ◌∙◌, arith}
use Rattle.std.specs.List.{All}
use Rattle.std.proofs.Math.Nat.{pow-le-pow_right, mul-le-mul_right, mul-add-div_right, mod-eq_of_lt, div-eq_of_lt, mul-add-mod_self_right}
use Rattle.std.proofs.lemmas.Bool.{lt-ltb, cases_lt}
use Rattle.std.proofs.lemmas.Bool.Decides.{nat_tests}
use Rattle.std.proofs.lemmas.Grind.{same_number_lists}
use Rattle.std.proofs.lemmas.List.{length-append, length-take-le, get_or-take, get_or_append_left, get_or-append_right}
use Rattle.std.proofs.lemmas.Nat.{pow-add, pow_pos, shr-shr, shr_high, shr_below}
use Rattle.des_payment.specs.Digits.{digit_in}

-- ---- one more digit

digit-before : (n d m i : ℕ) → d < 16 → i < m → digit_in (16 * n + d) (m + 1) i ≡ digit_in n m i
digit-before n d m i small within =
    let place : ℕ = 4 * (m - (i + 1)) in
    let split : 4 * (m + 1 - (i + 1)) ≡ 4 + place = omega arith in
    let front : (16 * n + d) / 16 ≡ n = omega arith in
    ap (λ e. (16 * n + d) / 2 ^ e % 16) split
    ∙ ap (λ x. x % 16) (sym (shr-shr (16 * n + d) 4 place))
    ∙ ap (λ x. x / 2 ^ place % 16) front

digit-last : (n d m i : ℕ) → d < 16 → i ≡ m → digit_in (16 * n + d) (m + 1) i ≡ d
digit-last n d m i small same =
    let none : 4 * (m + 1 - (i + 1)) ≡ 0 = omega arith in
    let whole : (16 * n + d) / 1 % 16 ≡ d = omega arith in
    ap (λ e. (16 * n + d) / 2 ^ e % 16) none ∙ whole

pub digits-more : (digits : List ℕ) (n d m : ℕ) → d < 16 → d ≡ get_or digits m 0 % 16
    → ((i : ℕ) → i < m → digit_in n m i ≡ get_or digits i 0 % 16)
    → (i : ℕ) → i < m + 1 → digit_in (16 * n + d) (m + 1) i ≡ get_or digits i 0 % 16
digits-more digits n d m small is before i within =
    elim (cases_lt i m) [
      | inl front ↦ digit-before n d m i small front ∙ before i front
      | inr last ↦
          let same : i ≡ m = omega arith in
          digit-last n d m i small same ∙ is ∙ ap (λ k. get_or digits k 0 % 16) (sym same)
    ]

pub within-more : (n d m : ℕ) → d < 16 → n < 2 ^ (4 * m) → 16 * n + d < 2 ^ (4 * (m + 1))
within-more n d m small within =
    let split : 4 * (m + 1) ≡ 4 + 4 * m = omega arith in
    let power : 2 ^ (4 * (m + 1)) ≡ 16 * 2 ^ (4 * m) = ap (λ e. 2 ^ e) split ∙ pow-add 2 4 (4 * m) in
    omega arith

-- a number of fewer than sixteen digits has 64 bits
pub fits : (n m : ℕ) → m < 16 → n < 2 ^ (4 * m) → n < 2 ^ 60
fits n m few within =
    let places : 4 * m ≤ 60 = omega arith in
    let most : 2 ^ (4 * m) ≤ 2 ^ 60 = pow-le-pow_right {n = 2} (omega arith) places in
    omega arith

-- ---- the first of them

pub digit-first : (n long count i : ℕ) → count ≤ long → i < count
    → digit_in (n / 2 ^ (4 * (long - count))) count i ≡ digit_in n long i
digit-first n long count i some within =
    let sum : 4 * (long - count) + 4 * (count - (i + 1)) ≡ 4 * (long - (i + 1)) = omega arith in
    ap (λ x. x % 16) (shr-shr n (4 * (long - count)) (4 * (count - (i + 1))) ∙ ap (λ e. n / 2 ^ e) sum)

pub first-small : (n long count : ℕ) → count ≤ long → n < 2 ^ (4 * long)
    → n / 2 ^ (4 * (long - count)) < 2 ^ (4 * count)
first-small n long count some small =
    let sum : 4 * long ≡ 4 * count + 4 * (long - count) = omega arith in
    shr_below n (4 * count) (4 * (long - count)) (rw (sym sum) small)

both-below : (x m y n : ℕ) → x < m → y < n → x * n + y < m * n
both-below x m y n within small =
    let next : x + 1 ≤ m = omega arith in
    let more : (x + 1) * n ≤ m * n = mul-le-mul_right n next in
    let sum : (x + 1) * n ≡ x * n + n = grind arith in
    omega arith

-- ---- one number after another, of as many digits as make `all`

module _ (front back count all : ℕ) (some : count ≤ all) (small : back < 2 ^ (4 * (all - count))) where
  pub placed-front : (k : ℕ) → k < count
      → digit_in (front * 2 ^ (4 * (all - count)) + back) all k ≡ digit_in front count k
  placed-front k within =
      let n : ℕ = front * 2 ^ (4 * (all - count)) + back in
      let sum : 4 * (all - (k + 1)) ≡ 4 * (all - count) + 4 * (count - (k + 1)) = omega arith in
      ap (λ e. n / 2 ^ e % 16) sum
      ∙ ap (λ x. x % 16) (sym (shr-shr n (4 * (all - count)) (4 * (count - (k + 1)))))
      ∙ ap (λ x. x / 2 ^ (4 * (count - (k + 1))) % 16) (shr_high front (4 * (all - count)) back small)

  pub placed-back : (k : ℕ) → count ≤ k → k < all
      → digit_in (front * 2 ^ (4 * (all - count)) + back) all k ≡ digit_in back (all - count) (k - count)
  placed-back k from within =
      let e : ℕ = 4 * (all - (k + 1)) in
      let d : ℕ = 4 * (k - count) in
      let sum : 4 * (all - count) ≡ d + 4 + e = omega arith in
      let same : 4 * (all - count - (k - count + 1)) ≡ e = omega arith in
      let power : front * 2 ^ (4 * (all - count)) ≡ front * 2 ^ d * 16 * 2 ^ e =
      ap (λ x. front * 2 ^ x) sum
      ∙ ap (λ x. front * x) (pow-add 2 (d + 4) e ∙ ap (λ x. x * 2 ^ e) (pow-add 2 d 4))
      ∙ grind arith in
      ap (λ x. (x + back) / 2 ^ e % 16) power
      ∙ ap (λ x. x % 16) (mul-add-div_right (pow_pos e) (front * 2 ^ d * 16) back)
      ∙ mul-add-mod_self_right (front * 2 ^ d) 16 (back / 2 ^ e)
      ∙ ap (λ x. back / 2 ^ x % 16) (sym same)

  pub placed-small : front < 2 ^ (4 * count) → front * 2 ^ (4 * (all - count)) + back < 2 ^ (4 * all)
  placed-small within =
      let sum : 4 * all ≡ 4 * count + 4 * (all - count) = omega arith in
      let power : 2 ^ (4 * all) ≡ 2 ^ (4 * count) * 2 ^ (4 * (all - count)) =
      ap (λ e. 2 ^ e) sum ∙ pow-add 2 (4 * count) (4 * (all - count)) in
      rw power (both-below front (2 ^ (4 * count)) back (2 ^ (4 * (all - count))) within small)

  -- the shift drops no bit of it
  pub placed-shift : all < 16 → front < 2 ^ (4 * count)
      → front * 2 ^ (4 * (all - count)) % 2 ^ 64 ≡ front * 2 ^ (4 * (all - count))
  placed-shift few within =
      let small : front * 2 ^ (4 * (all - count)) + back < 2 ^ 60 =
      fits (front * 2 ^ (4 * (all - count)) + back) all few (placed-small within) in
      mod-eq_of_lt (omega (arith, small))

-- ---- zeros after the first of twelve

digit-none : (count i : ℕ) → digit_in 0 count i ≡ 0
digit-none count i = ap (λ x. x % 16) (div-eq_of_lt (pow_pos (4 * (count - (i + 1)))))

module _ (front count : ℕ) (digits : List ℕ) (some : count ≤ 12) (small : front < 2 ^ (4 * count))
    (are : (i : ℕ) → i < count → digit_in front count i ≡ get_or digits i 0 % 16) where
  shifted : (k : ℕ) → digit_in (front * 2 ^ (4 * (12 - count)) % 2 ^ 64) 12 k
      ≡ digit_in (front * 2 ^ (4 * (12 - count)) + 0) 12 k
  shifted k =
      let same : front * 2 ^ (4 * (12 - count)) ≡ front * 2 ^ (4 * (12 - count)) + 0 = omega arith in
      ap (λ n. digit_in n 12 k)
      (placed-shift front 0 count 12 some (pow_pos (4 * (12 - count))) (omega arith) small ∙ same)

  pub zeros-after : (k : ℕ) → k < 12 → digit_in (front * 2 ^ (4 * (12 - count)) % 2 ^ 64) 12 k
      ≡ (if nat_lt k count then get_or digits k 0 % 16 else 0)
  zeros-after k within =
      elim (cases_lt k count) [
        | inl first ↦
            rw (lt-ltb k count first)
            (shifted k
            ∙ placed-front front 0 count 12 some (pow_pos (4 * (12 - count))) k first
            ∙ are k first)
        | inr past ↦
            let no : nat_lt k count ≡ false = grind (arith, nat_tests) in
            rw no
            (shifted k
            ∙ placed-back front 0 count 12 some (pow_pos (4 * (12 - count))) k past within
            ∙ digit-none (12 - count) (k - count))
      ]

-- ---- a PIN's digits, and fill digits after them

module _ (count : ℕ) (values fill digits : List ℕ) (least : 4 ≤ count) (most : count ≤ 12)
    (is_values : length values ≡ 12) (is_fill : length fill ≡ 10) (is_digits : length digits ≡ 14)
    (are_values : All (λ digit. digit < 16) (take count values)) (are_fill : All (λ digit. digit < 16) fill)
    (in_front : (k : ℕ) → k < count → get_or digits k 0 ≡ get_or values k 0 % 16)
    (at_back : (k : ℕ) → count ≤ k → k < 14 → get_or digits k 0 ≡ get_or fill (k - count) 0 % 16) where
  front_long : length (take count values) ≡ count
  front_long = length-take-le count values (omega arith)

  back_long : length (take (14 - count) fill) ≡ 14 - count
  back_long = length-take-le (14 - count) fill (omega arith)

  same-length : length digits ≡ length (take count values ++ take (14 - count) fill)
  same-length =
      omega (arith, length-append (take count values) (take (14 - count) fill), front_long, back_long, is_digits)

  front-same : (k : ℕ) → k < count → get_or digits k 0 ≡ get_or (take count values ++ take (14 - count) fill) k 0
  front-same k within =
      let place : k < length (take count values) = omega (arith, front_long) in
      let taken = get_or-take count values k 0 within in
      let small : get_or (take count values) k 0 < 16 = are_values k 0 place in
      in_front k within
      ∙ ap (λ x. x % 16) (sym taken)
      ∙ mod-eq_of_lt small
      ∙ sym (get_or_append_left (take count values) (take (14 - count) fill) 0 k place)

  back-same : (k : ℕ) → count ≤ k → k < 14
      → get_or digits k 0 ≡ get_or (take count values ++ take (14 - count) fill) k 0
  back-same k from within =
      let place : k - count < 14 - count = omega arith in
      let small : get_or fill (k - count) 0 < 16 = are_fill (k - count) 0 (omega arith) in
      at_back k from within
      ∙ mod-eq_of_lt small
      ∙ sym (get_or-append_right (take count values) (take (14 - count) fill) count k 0 front_long from
      ∙ get_or-take (14 - count) fill (k - count) 0 place)

  pub filled-are : digits ≡ take count values ++ take (14 - count) fill
  filled-are =
      same_number_lists digits (take count values ++ take (14 - count) fill) same-length (λ k within.
      elim (cases_lt k count) [
        | inl front ↦ front-same k front
        | inr back ↦ back-same k back (omega (arith, is_digits))
      ])
