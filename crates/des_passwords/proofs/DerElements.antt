-- An element that is read is spelled so, and one that is spelled so is read.
use Rattle.std.proofs.Common.{◌≡◌, ◌∙◌, ℕ, zero, suc, ◌+◌, ◌*◌, ◌/◌, ◌%◌, ◌<◌, ◌≤◌, ◌^◌, ◌⊎◌, inl, inr, Bool, true, false, cond, eqb, eq-eqb, ltb, List, [], ◌∷◌, ◌++◌, length, get_or, take, drop, Result, Ok, Err, refl, sym, ap, subst, arith, take-append-drop, length-append, append_assoc}
use Rattle.std.proofs.lemmas.Bool.{cases_lt, eqb-true, eqb-false, ltb-false, le-ltb, lt-ltb}
use Rattle.std.proofs.lemmas.Bool.Decides.{eqb_tells}
use Rattle.std.proofs.lemmas.List.{take_at, drop_at, length-take, get_or-drop}
use Rattle.des_passwords.specs.KeyFileFaults.{Fault, Structure}
use Rattle.des_passwords.specs.Der.{length_octets, element}
use Rattle.des_passwords.specs.DerReading.{◌>>=◌, one_octet, two_octets, length_at, tag_at, element_at}

abbrev pub IsBytes : List ℕ → Type 0
IsBytes bytes = (i : ℕ) → get_or bytes i 0 < 256

IsBytes-rest : (b : ℕ) (bytes : List ℕ) → IsBytes (b ∷ bytes) → IsBytes bytes
IsBytes-rest b bytes h i = h (suc i)

pub IsBytes-left : (xs ys : List ℕ) → IsBytes (xs ++ ys) → IsBytes xs
IsBytes-left [] ys h i = omega arith
IsBytes-left (x ∷ xs) ys h zero = h zero
IsBytes-left (x ∷ xs) ys h (suc i) = IsBytes-left xs ys (IsBytes-rest x (xs ++ ys) h) i

IsBytes-drop : (n : ℕ) (bytes : List ℕ) → IsBytes bytes → IsBytes (drop n bytes)
IsBytes-drop n bytes h i = rw get_or-drop (h (n + i))

-- the branch that a test took
pub either : {A : Type 0} (t : Bool) (x y r : A) → cond t x y ≡ r → ((t ≡ true) × (x ≡ r)) ⊎ ((t ≡ false) × (y ≡ r))
either true x y r e = inl (refl, e)
either false x y r e = inr (refl, e)

abbrev done : {A : Type 0} → A → Result A Fault
done x = Ok x

pub ok_is : {A : Type 0} (x y : A) → done x ≡ done y → x ≡ y
ok_is x y e = cc

pub no_fault : {A : Type 0} (f : Fault) (x : A) → Err f ≡ done x → ⊥
no_fault f x e = cc

-- the value of a step that did not fail
pub bind_ok : {A B : Type 0} (r : Result A Fault) (f : A → Result B Fault) (y : B)
    → (r >>= f) ≡ Ok y → (x : A) × (r ≡ Ok x) × (f x ≡ Ok y)
bind_ok (Ok x) f y e = (x, refl, e)
bind_ok (Err d) f y e = absurd cc

-- ---- lengths

abbrev IsLength : List ℕ → ℕ × List ℕ → Type 0
IsLength bytes x = (bytes ≡ length_octets x.0 ++ x.1) × (x.0 < 2 ^ 16) × IsBytes x.1

one_takes : (bytes : List ℕ) (x : ℕ × List ℕ) → IsBytes bytes → one_octet bytes ≡ Ok x → IsLength (0x81 ∷ bytes) x
unfolding one_octet
one_takes [] x fits e = absurd (no_fault Structure x e)
one_takes (n ∷ rest) x fits e =
    elim (either (ltb n 128) (Err Structure) (Ok (n, rest)) (Ok x) e) [
      | inl few ↦ absurd (no_fault Structure x few.1)
      | inr enough ↦
          let above : ltb n 256 ≡ true = lt-ltb n 256 (fits 0) in
          let small : n < 2 ^ 16 = omega (arith, fits 0) in
          subst (IsLength (0x81 ∷ n ∷ rest)) (ok_is (n, rest) x enough.1)
          (rw (enough.0, above) refl, small, IsBytes-rest n rest fits)
    ]

two_takes : (bytes : List ℕ) (x : ℕ × List ℕ) → IsBytes bytes → two_octets bytes ≡ Ok x → IsLength (0x82 ∷ bytes) x
unfolding two_octets
two_takes [] x fits e = absurd (no_fault Structure x e)
two_takes (high ∷ []) x fits e = absurd (no_fault Structure x e)
two_takes (high ∷ low ∷ rest) x fits e =
    elim (either (eqb high 0) (Err Structure) (Ok (high * 256 + low, rest)) (Ok x) e) [
      | inl few ↦ absurd (no_fault Structure x few.1)
      | inr enough ↦
          let below : low < 256 = fits 1 in
          let first : high < 256 = fits 0 in
          let some : high ≡ 0 → ⊥ = eqb-false high 0 enough.0 in
          let not_one : ltb (high * 256 + low) 128 ≡ false = le-ltb (high * 256 + low) 128 (omega (arith, some)) in
          let not_two : ltb (high * 256 + low) 256 ≡ false = le-ltb (high * 256 + low) 256 (omega (arith, some)) in
          let upper : (high * 256 + low) / 256 ≡ high = omega arith in
          let lower : (high * 256 + low) % 256 ≡ low = omega arith in
          let small : high * 256 + low < 2 ^ 16 = omega arith in
          subst (IsLength (0x82 ∷ high ∷ low ∷ rest)) (ok_is (high * 256 + low, rest) x enough.1) (
            rw (not_one, not_two, upper, lower) refl,
            small,
            IsBytes-rest low rest (IsBytes-rest high (low ∷ rest) fits),
          )
    ]

length_takes : (bytes : List ℕ) (x : ℕ × List ℕ) → IsBytes bytes → length_at bytes ≡ Ok x → IsLength bytes x
unfolding length_at
length_takes [] x fits e = absurd (no_fault Structure x e)
length_takes (n ∷ rest) x fits e =
    elim (either (ltb n 128) _ _ (Ok x) e) [
      | inl short ↦
          let small : n < 2 ^ 16 = omega (arith, fits 0) in
          subst (IsLength (n ∷ rest)) (ok_is (n, rest) x short.1) (rw short.0 refl, small, IsBytes-rest n rest fits)
      | inr long ↦ elim (either (eqb n 0x81) _ _ (Ok x) long.1) [
        | inl one ↦
            subst (λ (m : ℕ). IsLength (m ∷ rest) x) (sym (eqb-true n 0x81 one.0))
            (one_takes rest x (IsBytes-rest n rest fits) one.1)
        | inr other ↦ elim (either (eqb n 0x82) _ _ (Ok x) other.1) [
          | inl two ↦
              subst (λ (m : ℕ). IsLength (m ∷ rest) x) (sym (eqb-true n 0x82 two.0))
              (two_takes rest x (IsBytes-rest n rest fits) two.1)
          | inr none ↦ absurd (no_fault Structure x none.1)
        ]
      ]
    ]

octets-short : (n : ℕ) → ltb n 128 ≡ true → length_octets n ≡ n ∷ []
octets-short n short = rw short refl

octets-one : (n : ℕ) → ltb n 128 ≡ false → ltb n 256 ≡ true → length_octets n ≡ 0x81 ∷ n ∷ []
octets-one n long one = rw (long, one) refl

octets-two : (n : ℕ) → ltb n 128 ≡ false → ltb n 256 ≡ false → length_octets n ≡ 0x82 ∷ n / 256 ∷ n % 256 ∷ []
octets-two n long two = rw (long, two) refl

at-short : (n : ℕ) (rest : List ℕ) → ltb n 128 ≡ true → length_at (n ∷ rest) ≡ Ok (n, rest)
unfolding length_at
at-short n rest short = rw short refl

at-one : (n : ℕ) (rest : List ℕ) → ltb n 128 ≡ false → length_at (0x81 ∷ n ∷ rest) ≡ Ok (n, rest)
unfolding length_at one_octet
at-one n rest long = rw long refl

at-two : (high low : ℕ) (rest : List ℕ) → eqb high 0 ≡ false
    → length_at (0x82 ∷ high ∷ low ∷ rest) ≡ Ok (high * 256 + low, rest)
unfolding length_at two_octets
at-two high low rest some = rw some refl

length_again : (n : ℕ) (rest : List ℕ) → n < 2 ^ 16 → length_at (length_octets n ++ rest) ≡ Ok (n, rest)
length_again n rest small =
    elim (cases_lt n 128) [
      | inl short ↦
          let is = lt-ltb n 128 short in
          ap (λ (l : List ℕ). length_at (l ++ rest)) (octets-short n is) ∙ at-short n rest is
      | inr long ↦
          let is = le-ltb n 128 long in
          elim (cases_lt n 256) [
            | inl one ↦
                ap (λ (l : List ℕ). length_at (l ++ rest)) (octets-one n is (lt-ltb n 256 one)) ∙ at-one n rest is
            | inr two ↦
                let some : eqb (n / 256) 0 ≡ false =
                elim (eqb_tells (n / 256) 0) [
                  | inl none ↦ absurd (omega (arith, none.1, two))
                  | inr not ↦ not.0
                ] in
                let whole : n / 256 * 256 + n % 256 ≡ n = omega arith in
                ap (λ (l : List ℕ). length_at (l ++ rest)) (octets-two n is (le-ltb n 256 two))
                ∙ at-two (n / 256) (n % 256) rest some
                ∙ ap (λ (m : ℕ). done (m, rest)) whole
          ]
    ]

-- ---- elements

-- an element was taken from the front
pub record Takes (bytes : List ℕ) (tag : ℕ) (contents rest : List ℕ) : Type 0 where
  pub parts : bytes ≡ element tag contents ++ rest
  pub small : length contents < 2 ^ 16
  pub contents_fit : IsBytes contents
  pub rest_fits : IsBytes rest

tag_takes : (tag : ℕ) (bytes rest : List ℕ) → tag_at tag bytes ≡ Ok rest → bytes ≡ tag ∷ rest
unfolding tag_at
tag_takes tag [] rest e = absurd (no_fault Structure rest e)
tag_takes tag (t ∷ bytes) rest e =
    elim (either (eqb t tag) _ _ (Ok rest) e) [
      | inl same ↦
          ap (λ (m : ℕ). m ∷ bytes) (eqb-true t tag same.0) ∙ ap (λ (l : List ℕ). tag ∷ l) (ok_is bytes rest same.1)
      | inr other ↦ absurd (no_fault Structure rest other.1)
    ]

-- the contents and what follows them, if there are as many octets as the length says
cut_takes : (tag : ℕ) (bytes : List ℕ) (n : ℕ) (rest : List ℕ) → bytes ≡ tag ∷ length_octets n ++ rest → n < 2 ^ 16
    → IsBytes rest → n ≤ length rest → Takes bytes tag (take n rest) (drop n rest)
cut_takes tag bytes n rest parts small fits enough =
    let contents = take n rest in
    let size : length contents ≡ n = omega (arith, length-take n rest) in
    record {
      parts =
          parts
          ∙ ap (λ (l : List ℕ). tag ∷ length_octets n ++ l) (sym (take-append-drop n rest))
          ∙ ap (λ (l : List ℕ). tag ∷ l) (sym (append_assoc (length_octets n) contents (drop n rest)))
          ∙ ap (λ (m : ℕ). tag ∷ (length_octets m ++ contents) ++ drop n rest) (sym size);
      small = omega (arith, size, small);
      contents_fit = IsBytes-left contents (drop n rest) (subst IsBytes (sym (take-append-drop n rest)) fits);
      rest_fits = IsBytes-drop n rest fits;
    }

pub element_takes : (tag : ℕ) (bytes : List ℕ) (x : List ℕ × List ℕ) → IsBytes bytes → element_at tag bytes ≡ Ok x
    → Takes bytes tag x.0 x.1
unfolding element_at
element_takes tag bytes x fits e =
    let a = bind_ok (tag_at tag bytes) (λ rest. length_at rest >>= λ n.
    cond (ltb (length n.1) n.0) (Err Structure) (Ok (take n.0 n.1, drop n.0 n.1))) x e in
    let b = bind_ok (length_at a.0) (λ n.
    cond (ltb (length n.1) n.0) (Err Structure) (Ok (take n.0 n.1, drop n.0 n.1))) x a.2 in
    let front = tag_takes tag bytes a.0 a.1 in
    let long = length_takes a.0 b.0 (IsBytes-rest tag a.0 (subst IsBytes front fits)) b.1 in
    elim (either (ltb (length b.0.1) b.0.0) (Err Structure) (Ok (take b.0.0 b.0.1, drop b.0.0 b.0.1)) (Ok x) b.2) [
      | inl cut ↦ absurd (no_fault Structure x cut.1)
      | inr whole ↦ subst (λ (y : List ℕ × List ℕ). Takes bytes tag y.0 y.1)
          (ok_is (take b.0.0 b.0.1, drop b.0.0 b.0.1) x whole.1)
          (cut_takes tag bytes b.0.0 b.0.1 (front ∙ ap (λ (l : List ℕ). tag ∷ l) long.0) long.1 long.2
          (ltb-false (length b.0.1) b.0.0 whole.0))
    ]

tag_again : (tag : ℕ) (rest : List ℕ) → tag_at tag (tag ∷ rest) ≡ Ok rest
unfolding tag_at
tag_again tag rest = rw (eq-eqb tag tag refl) refl

pub element_again : (tag : ℕ) (contents rest : List ℕ) → length contents < 2 ^ 16
    → element_at tag (element tag contents ++ rest) ≡ Ok (contents, rest)
unfolding element_at
element_again tag contents rest small =
    let long : ltb (length (contents ++ rest)) (length contents) ≡ false =
    le-ltb (length (contents ++ rest)) (length contents) (omega (arith, length-append contents rest)) in
    ap (element_at tag) (ap (λ (l : List ℕ). tag ∷ l) (append_assoc (length_octets (length contents)) contents rest))
    ∙ rw (
      tag_again tag (length_octets (length contents) ++ (contents ++ rest)),
      length_again (length contents) (contents ++ rest) small,
      long,
      take_at contents rest (length contents) refl,
      drop_at contents rest (length contents) refl,
    ) refl
