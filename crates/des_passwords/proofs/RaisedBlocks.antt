-- The sum of two blocks as numbers, made byte by byte from the last to the first.
use Rattle.std.proofs.Common.{◌≡◌, refl, ap, sym, ◌∙◌, ℕ, zero, suc, ◌+◌, ◌*◌, ◌/◌, ◌%◌, ◌^◌, ◌<◌, List, [], ◌∷◌, ◌++◌, length, take, drop, get_or, slice_set, length-drop, append_assoc, append-nil, add-one, arith}
use Rattle.std.proofs.lemmas.List.{take_more, take_all, drop_all, length-take}
use Rattle.std.proofs.Math.Nat.{add-mul-div_right, div-div-eq-div-mul, pow-suc}
use Rattle.std.proofs.Math.Seq.{set-append_seam}
use Rattle.des_passwords.specs.Pkcs12.{bytes_of, number_of}

drop-at : (xs : List ℕ) (i : ℕ) → i < length xs → drop i xs ≡ get_or xs i 0 ∷ drop (suc i) xs
drop-at [] i within = absurd (omega (arith, within))
drop-at (x ∷ xs) zero within = refl
drop-at (x ∷ xs) (suc i) within = drop-at xs i (omega (arith, within))

-- a byte before others
number-at : (xs : List ℕ) (i k : ℕ) → length xs ≡ suc i + k
    → number_of (drop i xs) ≡ get_or xs i 0 * 256 ^ k + number_of (drop (suc i) xs)
unfolding number_of
number-at xs i k size =
    let rest : length (drop (suc i) xs) ≡ k = omega (arith, length-drop (suc i) xs, size) in
    ap number_of (drop-at xs i (omega (arith, size)))
    ∙ ap (λ n. get_or xs i 0 * 256 ^ n + number_of (drop (suc i) xs)) rest

powers : (a p : ℕ) → a * (p * 256) ≡ (a * 256) * p
powers a p = grind arith

higher : (a k : ℕ) → a * 256 ^ suc k ≡ (a * 256) * 256 ^ k
higher a k = ap (λ p. a * p) (pow-suc 256 k) ∙ powers a (256 ^ k)

some : (k : ℕ) → 0 < 256 ^ k
some zero = omega arith
some (suc k) = omega (arith, some k, pow-suc 256 k)

above : (a n k : ℕ) → (a * 256 ^ k + n) / 256 ^ k ≡ a + n / 256 ^ k
above a n k =
    let turned : a * 256 ^ k + n ≡ n + a * 256 ^ k = omega arith in
    ap (λ m. m / 256 ^ k) turned ∙ add-mul-div_right n a (some k) ∙ omega arith

-- what is above the bytes is of no account
bytes-low : (k a n : ℕ) → bytes_of k (a * 256 ^ k + n) ≡ bytes_of k n
unfolding bytes_of
bytes-low zero a n = refl
bytes-low (suc k) a n =
    let same : a * 256 ^ suc k + n ≡ a * 256 * 256 ^ k + n = ap (λ m. m + n) (higher a k) in
    let first : (a * 256 ^ suc k + n) / 256 ^ k % 256 ≡ n / 256 ^ k % 256 =
    ap (λ m. m / 256 ^ k % 256) same ∙ ap (λ m. m % 256) (above (a * 256) n k) ∙ omega arith in
    let rest = ap (bytes_of k) same ∙ bytes-low k (a * 256) n in
    ap (λ byte. byte ∷ bytes_of k (a * 256 ^ suc k + n)) first ∙ ap (λ (l : List ℕ). n / 256 ^ k % 256 ∷ l) rest

-- the sum of two blocks from a place on, with the 1 that is added
abbrev pub sum_from : List ℕ → List ℕ → ℕ → ℕ
sum_from xs ys i = number_of (drop i xs) + number_of (drop i ys) + 1

sums : (x y p m n a b : ℕ) → m ≡ x * p + a → n ≡ y * p + b → m + n + 1 ≡ (x + y) * p + (a + b + 1)
sums x y p m n a b is also = grind arith

sum-at : (xs ys : List ℕ) (i k : ℕ) → length xs ≡ suc i + k → length ys ≡ suc i + k
    → sum_from xs ys i ≡ (get_or xs i 0 + get_or ys i 0) * 256 ^ k + sum_from xs ys (suc i)
sum-at xs ys i k xs_size ys_size =
    let x = number-at xs i k xs_size in
    let y = number-at ys i k ys_size in
    sums (get_or xs i 0) (get_or ys i 0) (256 ^ k) _ _ _ _ x y

-- the carry, and the bytes, if a place more is added
pub carry-at : (xs ys : List ℕ) (i k carry : ℕ) → length xs ≡ suc i + k → length ys ≡ suc i + k
    → carry ≡ sum_from xs ys (suc i) / 256 ^ k
    → (get_or xs i 0 + get_or ys i 0 + carry) / 256 ≡ sum_from xs ys i / 256 ^ suc k
carry-at xs ys i k carry xs_size ys_size is =
    let s = get_or xs i 0 + get_or ys i 0 in
    let here : sum_from xs ys i / 256 ^ k ≡ s + carry =
    ap (λ n. n / 256 ^ k) (sum-at xs ys i k xs_size ys_size) ∙ above s (sum_from xs ys (suc i)) k
    ∙ ap (λ n. s + n) (sym is) in
    sym (ap (λ p. sum_from xs ys i / p) (pow-suc 256 k)
    ∙ sym (div-div-eq-div-mul (sum_from xs ys i) (256 ^ k) 256)
    ∙ ap (λ n. n / 256) here)

pub bytes-at : (xs ys answer : List ℕ) (i k carry : ℕ) → length xs ≡ suc i + k → length ys ≡ suc i + k
    → carry ≡ sum_from xs ys (suc i) / 256 ^ k
    → answer ≡ take (suc i) xs ++ bytes_of k (sum_from xs ys (suc i))
    → slice_set answer i ((get_or xs i 0 + get_or ys i 0 + carry) % 256)
    ≡ take i xs ++ bytes_of (suc k) (sum_from xs ys i)
unfolding bytes_of
bytes-at xs ys answer i k carry xs_size ys_size is made =
    let s = get_or xs i 0 + get_or ys i 0 in
    let low = bytes_of k (sum_from xs ys (suc i)) in
    let byte = (s + carry) % 256 in
    let first : sum_from xs ys i / 256 ^ k % 256 ≡ byte =
    ap (λ n. n / 256 ^ k % 256) (sum-at xs ys i k xs_size ys_size)
    ∙ ap (λ n. n % 256) (above s (sum_from xs ys (suc i)) k)
    ∙ ap (λ n. (s + n) % 256) (sym is) in
    let rest : bytes_of k (sum_from xs ys i) ≡ low =
    ap (bytes_of k) (sum-at xs ys i k xs_size ys_size) ∙ bytes-low k s (sum_from xs ys (suc i)) in
    let front : answer ≡ take i xs ++ get_or xs i 0 ∷ low =
    made
    ∙ ap (λ n. take n xs ++ low) (sym (add-one i))
    ∙ ap (λ (l : List ℕ). l ++ low) (take_more xs i 0 (omega (arith, xs_size)))
    ∙ append_assoc (take i xs) (get_or xs i 0 ∷ []) low in
    let place : length (take i xs) ≡ i = omega (arith, length-take i xs, xs_size) in
    ap (λ (l : List ℕ). slice_set l i byte) front
    ∙ ap (λ n. slice_set (take i xs ++ get_or xs i 0 ∷ low) n byte) (sym place)
    ∙ set-append_seam (take i xs) (get_or xs i 0) low byte
    ∙ ap (λ (l : List ℕ). take i xs ++ byte ∷ l) (sym rest)
    ∙ ap (λ n. take i xs ++ n ∷ bytes_of k (sum_from xs ys i)) (sym first)

-- before the last place: nothing is added but 1
pub sum_end : (xs ys : List ℕ) → length xs ≡ 64 → length ys ≡ 64 → sum_from xs ys 64 ≡ 1
unfolding number_of
sum_end xs ys xs_size ys_size =
    rw (drop_all 64 xs (omega (arith, xs_size)), drop_all 64 ys (omega (arith, ys_size))) refl

pub bytes_end : (xs : List ℕ) (n : ℕ) → length xs ≡ 64 → xs ≡ take 64 xs ++ bytes_of 0 n
unfolding bytes_of
bytes_end xs n size = sym (append-nil (take 64 xs) ∙ take_all 64 xs (omega (arith, size)))
