-- The digests of PKCS #12, if one or two are enough.
use Rattle.std.proofs.Common.{◌≡◌, refl, ap, sym, ◌∙◌, ℕ, zero, suc, ◌+◌, ◌-◌, ◌*◌, ◌/◌, ◌≤◌, ◌<◌, List, [], ◌∷◌, ◌++◌, length, take, append-nil, Some, arith}
use Rattle.std.proofs.lemmas.Nat.{div-mul-add}
use Rattle.des_passwords.specs.Pkcs12.{a_of, b_of, all_raised_by, digests}

-- the digest behind the first
abbrev pub second_of : (List ℕ → List ℕ) → ℕ → ℕ → List ℕ → List ℕ
second_of hash id iterations i =
    a_of hash id iterations (all_raised_by (Some (b_of (a_of hash id iterations i))) i)

take-behind : (n : ℕ) (xs ys : List ℕ) → length xs ≤ n → take n (xs ++ ys) ≡ xs ++ take (n - length xs) ys
take-behind n [] ys within = ap (λ m. take m ys) (omega arith)
take-behind zero (x ∷ xs) ys within = absurd (omega (arith, within))
take-behind (suc n) (x ∷ xs) ys within =
    let rest : suc n - length (x ∷ xs) ≡ n - length xs = omega arith in
    ap (λ (l : List ℕ). x ∷ l) (take-behind n xs ys (omega (arith, within)))
    ∙ ap (λ m. x ∷ xs ++ take m ys) (sym rest)

pub one_digest : (hash : List ℕ → List ℕ) (id iterations : ℕ) (i : List ℕ) (n size : ℕ) → 0 < size → n ≤ size
    → length (a_of hash id iterations i) ≡ size
    → take n (digests hash id iterations i ((n + (size - 1)) / size)) ≡ take n (a_of hash id iterations i)
unfolding digests
one_digest hash id iterations i zero size some few long = refl
one_digest hash id iterations i (suc n) size some few long =
    let one : (suc n + (size - 1)) / size ≡ 1 =
    ap (λ m. m / size) (omega (arith, some)) ∙ div-mul-add 1 size n (omega (arith, few)) in
    let a = a_of hash id iterations i in
    ap (λ m. take (suc n) (digests hash id iterations i m)) one
    ∙ ap (take (suc n)) (append-nil a)

pub two_digests : (hash : List ℕ → List ℕ) (id iterations : ℕ) (i : List ℕ) (n size : ℕ) → size < n → n ≤ 2 * size
    → length (a_of hash id iterations i) ≡ size
    → take n (digests hash id iterations i ((n + (size - 1)) / size))
    ≡ a_of hash id iterations i ++ take (n - size) (second_of hash id iterations i)
unfolding digests
two_digests hash id iterations i n size many few long =
    let a = a_of hash id iterations i in
    let second = second_of hash id iterations i in
    let two : (n + (size - 1)) / size ≡ 2 =
    ap (λ m. m / size) (omega (arith, many)) ∙ div-mul-add 2 size (n - size - 1) (omega (arith, many, few)) in
    ap (λ m. take n (digests hash id iterations i m)) two
    ∙ ap (λ (l : List ℕ). take n (a ++ l)) (append-nil second)
    ∙ take-behind n a second (omega (arith, long, many))
    ∙ ap (λ m. a ++ take (n - m) second) long
