-- How many different numbers a list has.
use Rattle.std.proofs.Common.{◌≡◌, ℕ, zero, suc, ◌+◌, ◌-◌, ◌<◌, ◌≤◌, ◌||◌, if◌then◌else◌, List, [], ◌∷◌, Bool, true, false, map, length, take, drop, get_or, replicate, refl, sym, ap, ap₂, ◌∙◌, subst, arith, inl, inr, zero-add, one-add}
use Rattle.std.specs.Prelude.{nat_eq, cond}
use Rattle.std.specs.List.{list_any}
use Rattle.std.specs.Set.{distinct_count, unique_keys, is_member}
use Rattle.std.proofs.lemmas.List.{drop_more, take_all, length-drop}
use Rattle.std.proofs.lemmas.Bool.Decides.{nat_tests}
use Rattle.std.proofs.lemmas.Bool.{eqb-true, eq-eqb, or_cases, or_left, or_right, cases_Bool}

-- ---- the count as a sum

-- a list with a number before it, unless that is found, is one longer unless it is found
length-unless : (found : Bool) (x : ℕ) (xs : List ℕ)
    → length (cond found xs (x ∷ xs)) ≡ (if found then 0 else 1) + length xs
length-unless true x xs = sym (zero-add (length xs))
length-unless false x xs = sym (one-add (length xs))

-- each number counts one unless it is found after its place
abbrev pub count_of : List ℕ → ℕ
count_of [] = 0
count_of (x ∷ xs) = (if is_member nat_eq xs x then 0 else 1) + count_of xs

pub distinct_count-sum : (xs : List ℕ) → distinct_count nat_eq xs ≡ count_of xs
distinct_count-sum [] = refl
distinct_count-sum (x ∷ xs) =
    let found : Bool = is_member nat_eq xs x in
    length-unless found x (unique_keys nat_eq xs)
    ∙ ap (λ (n : ℕ). (if found then 0 else 1) + n) (distinct_count-sum xs)

-- a list that is not empty has a number
pub count_of-pos : (xs : List ℕ) → 1 ≤ length xs → 1 ≤ count_of xs
count_of-pos [] some = absurd (omega arith)
count_of-pos (x ∷ []) some = omega arith
count_of-pos (x ∷ y ∷ xs) some = omega (arith, count_of-pos (y ∷ xs) (omega arith))

-- what a function makes of a number in a list is among what it makes of the list
is_member-map : (f : ℕ → ℕ) (x : ℕ) (xs : List ℕ) → is_member nat_eq xs x ≡ true
    → is_member nat_eq (map f xs) (f x) ≡ true
is_member-map f x [] among = absurd (cc)
is_member-map f x (y ∷ xs) among = elim (or_cases _ _ among) [
  | inl first ↦ or_left _ _ (eq-eqb (f x) (f y) (ap f (eqb-true x y first)))
  | inr later ↦ or_right _ _ (is_member-map f x xs later)
]

-- a function makes no more different numbers than there were
pub count_of-map : (f : ℕ → ℕ) (xs : List ℕ) → count_of (map f xs) ≤ count_of xs
count_of-map f [] = omega arith
count_of-map f (x ∷ xs) = grind (arith, is_member-map f x xs, count_of-map f xs)

-- a member of copies of a number is that number
is_member-replicate : (x y : ℕ) (n : ℕ) → is_member nat_eq (replicate n y) x ≡ true → x ≡ y
is_member-replicate x y zero among = absurd (cc)
is_member-replicate x y (suc n) among = elim (or_cases _ _ among) [
  | inl first ↦ eqb-true x y first
  | inr later ↦ is_member-replicate x y n later
]

-- a list with one number is copies of it
pub copies_of_one : (x : ℕ) (xs : List ℕ) → count_of (x ∷ xs) ≡ 1 → xs ≡ replicate (length xs) x
copies_of_one x [] one = refl
copies_of_one x (y ∷ xs) one = elim (cases_Bool (is_member nat_eq (y ∷ xs) x)) [
  | inl among ↦
      let rest : xs ≡ replicate (length xs) y = copies_of_one y xs (omega (arith, rw among at one)) in
      let P : List ℕ → Type 0 = λ zs. is_member nat_eq zs x ≡ true in
      let same : x ≡ y = is_member-replicate x y (suc (length xs)) (subst P (ap (λ zs. y ∷ zs) rest) among) in
      ap₂ ◌∷◌ (sym same) (rest ∙ ap (replicate (length xs)) (sym same))
  | inr apart ↦ absurd (omega (arith, count_of-pos (y ∷ xs) (omega arith), rw apart at one))
]

-- ---- a step of a loop

-- the test of two numbers, in either order
nat_eq-turned : (x y : ℕ) → nat_eq x y ≡ nat_eq y x
nat_eq-turned x y = grind (arith, nat_tests)

-- the test of a number in a list, in either order
list_any-is_member : (x : ℕ) (xs : List ℕ) → list_any (λ y. nat_eq y x) xs ≡ is_member nat_eq xs x
list_any-is_member x [] = refl
list_any-is_member x (y ∷ xs) = ap₂ ◌||◌ (nat_eq-turned y x) (list_any-is_member x xs)

-- the numbers from a place on: the one there is counted if it does not stand after it
pub distinct_count-drop : (xs : List ℕ) (i : ℕ) (found : Bool) → i < length xs
    → found ≡ list_any (λ y. nat_eq y (get_or xs i 0)) (take (length xs - (i + 1)) (drop (i + 1) xs))
    → distinct_count nat_eq (drop i xs) ≡ (if found then 0 else 1) + distinct_count nat_eq (drop (i + 1) xs)
distinct_count-drop xs i found within search =
    let x : ℕ = get_or xs i 0 in
    let rest : List ℕ = drop (i + 1) xs in
    let whole : take (length xs - (i + 1)) rest ≡ rest =
    take_all (length xs - (i + 1)) rest (omega (arith, length-drop (i + 1) xs)) in
    let among : found ≡ is_member nat_eq rest x =
    search ∙ ap (list_any (λ y. nat_eq y x)) whole ∙ list_any-is_member x rest in
    ap (distinct_count nat_eq) (drop_more xs i 0 within)
    ∙ rw among (length-unless (is_member nat_eq rest x) x (unique_keys nat_eq rest))
